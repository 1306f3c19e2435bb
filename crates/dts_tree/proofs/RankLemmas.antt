-- Where numbers stand in an order, one place more in front.
use Rattle.std.proofs.Common.{◌≡◌, ℕ, ◌+◌, ◌<◌, List, Bool, true, false, not, cond, length, get_or, set, drop, nat_eq, sym, ap, add-zero, ◌∙◌, arith}
use Rattle.std.proofs.Math.Logic.{⊎_elim}
use Rattle.std.proofs.lemmas.Bool.{cases_eq, eq-eqb, ne_eqb}
use Rattle.std.specs.List.{position_or_len}
use Rattle.std.proofs.lemmas.List.{drop_all, drop_more, get_or-set_same, get_or-set_other}

pub rank-start : (ranks order : List ℕ) (k : ℕ) → get_or ranks k 0 ≡ length order → get_or ranks k 0 ≡ length order + position_or_len (nat_eq k) (drop (length order) order)
rank-start ranks order k is = rw (drop_all (length order) order (omega arith)) (is ∙ sym (add-zero (length order)))

-- one place more in front
module _ (order : List ℕ) (i k : ℕ) (inside : i < length order) where
  rank-here : (same : Bool) → nat_eq k (get_or order i 0) ≡ same → position_or_len (nat_eq k) (drop i order) ≡ cond (not same) (1 + position_or_len (nat_eq k) (drop (i + 1) order)) 0
  rank-here same is = ap (position_or_len (nat_eq k)) (drop_more order i 0 inside) ∙ ap (λ b. cond (not b) (1 + position_or_len (nat_eq k) (drop (i + 1) order)) 0) is

  pub rank-other : (ranks : List ℕ) → (k ≡ get_or order i 0 → ⊥) → get_or ranks k 0 ≡ i + 1 + position_or_len (nat_eq k) (drop (i + 1) order) → get_or ranks k 0 ≡ i + position_or_len (nat_eq k) (drop i order)
  rank-other ranks other h = omega (arith, h, rank-here false (ne_eqb k (get_or order i 0) other))

  pub rank-step : (ranks : List ℕ) → k < length ranks → get_or ranks k 0 ≡ i + 1 + position_or_len (nat_eq k) (drop (i + 1) order) → get_or (set ranks (get_or order i 0) i) k 0 ≡ i + position_or_len (nat_eq k) (drop i order)
  rank-step ranks in_k h =
      ⊎_elim
      (λ e. ap (λ (n : ℕ). get_or (set ranks n i) k 0) (sym e) ∙ (get_or-set_same ranks k i 0 in_k ∙ omega (arith, rank-here true (eq-eqb k (get_or order i 0) e))))
      (λ n. get_or-set_other ranks (get_or order i 0) k i 0 n ∙ rank-other ranks n h)
      (cases_eq k (get_or order i 0))
