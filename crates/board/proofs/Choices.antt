-- The choices of a changeable rail, and the picks among them.
use Rattle.std.proofs.Common.{◌≡◌, ℕ, max, min, Bool, true, false, cond, leb, List, [], ◌∷◌, Option, Some, None, refl, ap, ◌∙◌, map, filter}
use Rattle.std.specs.Option.{option_map}
use Rattle.linear_range.specs.Values.{pick_high, pick_low, least_pair, lesser_pair}
use Rattle.board.specs.declared.rail.Rail.{Rail}
use Rattle.board.specs.Table.{values_of, passing}
use Rattle.board.specs.Rail.{is_within, choices, allowed, least, lesser}
use Rattle.board.proofs.Picks.{pick_high-within, pick_low-within, least_pair-within, filter-all}

choices-changeable : (rail : Rail) (bounds : Option (ℕ × ℕ)) → rail.changeable ≡ true → rail.limits.bounds ≡ bounds → choices rail ≡ filter (λ p. is_within bounds p.1) (values_of rail.desc.table)
choices-changeable rail bounds changeable is = rw (changeable, is)

pub high-free : (rail : Rail) (u : ℕ) → rail.changeable ≡ true → rail.limits.bounds ≡ None → pick_high (choices rail) u ≡ pick_high (values_of rail.desc.table) u
high-free rail u changeable is = ap (λ ps. pick_high ps u) (choices-changeable rail None changeable is ∙ filter-all (values_of rail.desc.table))

pub low-free : (rail : Rail) (u : ℕ) → rail.changeable ≡ true → rail.limits.bounds ≡ None → pick_low (choices rail) u ≡ pick_low (values_of rail.desc.table) u
low-free rail u changeable is = ap (λ ps. pick_low ps u) (choices-changeable rail None changeable is ∙ filter-all (values_of rail.desc.table))

pub high-bounded : (rail : Rail) (lo hi u : ℕ) → rail.changeable ≡ true → rail.limits.bounds ≡ Some (lo, hi)
    → pick_high (choices rail) u ≡ passing (λ v. leb v hi) (pick_high (values_of rail.desc.table) (max u lo))
high-bounded rail lo hi u changeable is = ap (λ ps. pick_high ps u) (choices-changeable rail (Some (lo, hi)) changeable is) ∙ pick_high-within lo hi u (values_of rail.desc.table)

pub low-bounded : (rail : Rail) (lo hi u : ℕ) → rail.changeable ≡ true → rail.limits.bounds ≡ Some (lo, hi)
    → pick_low (choices rail) u ≡ passing (leb lo) (pick_low (values_of rail.desc.table) (min u hi))
low-bounded rail lo hi u changeable is = ap (λ ps. pick_low ps u) (choices-changeable rail (Some (lo, hi)) changeable is) ∙ pick_low-within lo hi u (values_of rail.desc.table)

lesser-pair : (p : ℕ × ℕ) (o : Option (ℕ × ℕ)) → lesser p.1 (option_map (λ q. q.1) o) ≡ (lesser_pair p o).1
lesser-pair p None = refl
lesser-pair p (Some q) = elim (leb p.1 q.1) as (λ t. cond t p.1 q.1 ≡ (cond {A = ℕ × ℕ} t p q).1) [ true ↦ refl | false ↦ refl ]

least-values_step : (p : ℕ × ℕ) (vs : List ℕ) (ps : List (ℕ × ℕ)) (t : Bool) → least vs ≡ option_map (λ q. q.1) (least_pair ps)
    → least (cond t (p.1 ∷ vs) vs) ≡ option_map (λ q. q.1) (least_pair (cond t (p ∷ ps) ps))
least-values_step p vs ps true ih = ap (λ o. Some (lesser p.1 o)) ih ∙ ap Some (lesser-pair p (least_pair ps))
least-values_step p vs ps false ih = ih

-- the least of the values is the value of the least pair
least-values : (ok : ℕ → Bool) (ps : List (ℕ × ℕ)) → least (filter ok (map (λ p. p.1) ps)) ≡ option_map (λ p. p.1) (least_pair (filter (λ p. ok p.1) ps))
least-values ok [] = refl
least-values ok (p ∷ ps) = least-values_step p (filter ok (map (λ q. q.1) ps)) (filter (λ q. ok q.1) ps) (ok p.1) (least-values ok ps)

pub least-within : (rail : Rail) (lo hi : ℕ) → least (filter (is_within (Some (lo, hi))) (allowed rail)) ≡ option_map (λ p. p.1) (passing (λ v. leb v hi) (pick_high (choices rail) lo))
least-within rail lo hi = least-values (is_within (Some (lo, hi))) (choices rail) ∙ ap (option_map (λ p. p.1)) (least_pair-within lo hi (choices rail))
