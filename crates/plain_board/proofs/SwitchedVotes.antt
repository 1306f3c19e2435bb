-- The votes after one rail was switched: those of its supply are one more or one less, and all others as before.
use Rattle.std.proofs.Common.{◌≡◌, ℕ, zero, suc, ◌+◌, ◌&&◌, Bool, true, false, cond, List, [], ◌∷◌, Some, refl, sym, ap, ◌∙◌, arith, get_or, sum_by, slice_get}
use Rattle.std.proofs.lemmas.List.Sums.{sum_by-cons}
use Rattle.std.proofs.lemmas.Option.{same_Some, slice_get-get_or}
use Rattle.board.specs.declared.board.Board.{Board}
use Rattle.board.specs.declared.rail.Rail.{Rail}
use Rattle.board.specs.Rail.{is_on}
use Rattle.plain_board.specs.declared.plain.Plain.{Plain}
use Rattle.plain_board.specs.Counts.{is_supply, votes}
use Rattle.plain_board.proofs.KeptUse.{sum_by_same}

-- where two functions agree but for one place their sums differ by what they differ there
sum_but_one : {X : Type 0} (f g : X → ℕ) (xs : List X) (r : ℕ) (x : X) → slice_get xs r ≡ Some x → ((k : ℕ) (y : X) → slice_get xs k ≡ Some y → (r ≡ k → ⊥) → f y ≡ g y)
    → sum_by f xs + g x ≡ sum_by g xs + f x
sum_but_one f g [] r x at others = absurd (cc)
sum_but_one f g (y ∷ ys) zero x at others =
    let same : y ≡ x = same_Some y x at in
    let rest = sum_by_same f g ys (λ k d within. others (suc k) (get_or ys k d) (slice_get-get_or ys k d within) (λ here. absurd (omega (arith, here)))) in
    omega (arith, sum_by-cons f y ys, sum_by-cons g y ys, rest, ap f same, ap g same)
sum_but_one f g (y ∷ ys) (suc r) x at others =
    let first : f y ≡ g y = others 0 y refl (λ here. absurd (omega (arith, here))) in
    let rest = sum_but_one f g ys r x at (λ k z is apart. others (suc k) z is (λ here. apart (omega (arith, here)))) in
    omega (arith, sum_by-cons f y ys, sum_by-cons g y ys, rest, first)

-- a rail's vote for rail i
abbrev pub vote : ℕ → Rail → Bool → ℕ
vote i rail on = cond (is_supply i rail.supply && on) 1 0

module _ (board : Board) (before after : Plain) (r : ℕ) (rail : Rail) (there : slice_get board.rails r ≡ Some rail) (others : (k : ℕ) (other : Rail) → slice_get board.rails k ≡ Some other → (r ≡ k → ⊥) → is_on other after.regs ≡ is_on other before.regs) where
  -- the votes for rail i differ by the vote of the one rail
  pub votes_switched : (i : ℕ) → votes board after i + vote i rail (is_on rail before.regs) ≡ votes board before i + vote i rail (is_on rail after.regs)
  votes_switched i =
      sum_but_one (λ a. vote i a (is_on a after.regs)) (λ a. vote i a (is_on a before.regs)) board.rails r rail there
      (λ k other at apart. ap (vote i other) (others k other at apart))

  both_by : (i : ℕ) (s t : Bool) → is_on rail before.regs ≡ s → is_on rail after.regs ≡ t → votes board after i + vote i rail s ≡ votes board before i + vote i rail t
  both_by i s t was now = ap (λ b. votes board after i + vote i rail b) (sym was) ∙ votes_switched i ∙ ap (λ b. votes board before i + vote i rail b) now

  no_vote_off : (i : ℕ) → vote i rail false ≡ 0
  no_vote_off i = by (is_supply i rail.supply) where
    by : (s : Bool) → cond {A = ℕ} (s && false) 1 0 ≡ 0
    by true = refl
    by false = refl

  -- where the rail came up its supply has one vote more
  pub votes_up : is_on rail before.regs ≡ false → is_on rail after.regs ≡ true → (i : ℕ) → votes board after i ≡ votes board before i + vote i rail true
  votes_up was now i = omega (arith, both_by i false true was now, no_vote_off i)

  -- where it went down, one vote less
  pub votes_down : is_on rail before.regs ≡ true → is_on rail after.regs ≡ false → (i : ℕ) → votes board after i + vote i rail true ≡ votes board before i
  votes_down was now i = omega (arith, both_by i true false was now, no_vote_off i)
