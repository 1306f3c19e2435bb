-- A rail's next value on its way.
use Rattle.std.proofs.Common.{◌≡◌, ℕ, ◌+◌, ◌-◌, ◌≤◌, ◌<◌, Bool, true, false, cond, leb, ltb, List, [], ◌∷◌, Option, Some, None, refl, sym, ap, ◌∙◌, arith}
use Rattle.std.proofs.lemmas.Bool.Decides.{nat_tests}
use Rattle.std.specs.Option.{option_map, IsSome}
use Rattle.linear_range.specs.declared.pick.Pick.{Pick}
use Rattle.linear_range.specs.Pick.{pair_of}
use Rattle.linear_range.specs.Values.{pick_high, pick_low}
use Rattle.board.specs.declared.rail.Rail.{Rail}
use Rattle.board.specs.Rail.{allowed, choices}
use Rattle.regulator_main.specs.Inside.Way.{stretch, way}
use Rattle.regulator_main.proofs.Ordered.{has, upward, downward}
use Rattle.regulator_main.proofs.Way.{stretch-step, stretch-same}
use Rattle.regulator_main.proofs.Nearest.{lowest, highest, least_pair-is, greatest_pair-is, best_passes, best_among, best_first, best_preferred, best_some, IsFirst}

pub way-rising : (values : List ℕ) (from to : ℕ) → leb from to ≡ true → way values from to ≡ stretch ltb values from to
way-rising values from to rising = rw rising

way-falling_by : (values : List ℕ) (from to : ℕ) (t : Bool) → leb from to ≡ t → to ≤ from → cond t (stretch ltb values from to) (stretch (λ a b. ltb b a) values from to) ≡ stretch (λ a b. ltb b a) values from to
way-falling_by values from to true is falling =
    let e : from ≡ to = grind (arith, nat_tests) in
    rw e (stretch-same ltb upward values to ∙ sym (stretch-same (λ a b. ltb b a) downward values to))
way-falling_by values from to false is falling = refl

pub way-falling : (values : List ℕ) (from to : ℕ) → to ≤ from → way values from to ≡ stretch (λ a b. ltb b a) values from to
way-falling values from to falling = way-falling_by values from to (leb from to) refl falling

above_passes : (from w : ℕ) → ltb from w ≡ true → leb (from + 1) w ≡ true
above_passes from w behind = grind (arith, nat_tests)

below_passes : (from w : ℕ) → ltb w from ≡ true → leb w (from - 1) ≡ true
below_passes from w behind = grind (arith, nat_tests)

above_not_below : (v w : ℕ) → leb v w ≡ true → ltb w v ≡ false
above_not_below v w h = grind (arith, nat_tests)

-- nothing lies on the way from a value to itself
pub way-same : (values : List ℕ) (to : ℕ) → way values to to ≡ []
way-same values to = way-rising values to to (grind (arith, nat_tests)) ∙ stretch-same ltb upward values to

-- the pair is the next on the way up
pub record IsAbove (rail : Rail) (from to : ℕ) (p : ℕ × ℕ) : Type 0 where
  pub next : way (allowed rail) from to ≡ p.1 ∷ way (allowed rail) p.1 to
  pub first : IsFirst (choices rail) p
  pub nearer : from < p.1
  pub not_past : p.1 ≤ to

-- the pair is the next on the way down
pub record IsBelow (rail : Rail) (from to : ℕ) (p : ℕ × ℕ) : Type 0 where
  pub next : way (allowed rail) from to ≡ p.1 ∷ way (allowed rail) p.1 to
  pub first : IsFirst (choices rail) p
  pub nearer : p.1 < from
  pub not_past : to ≤ p.1

module _ (rail : Rail) (from to : ℕ) (target : has to (allowed rail) ≡ true) where
  pub some_above : from < to → pick_high (choices rail) (from + 1) ≡ None → ⊥
  some_above rising none =
      best_some leb lowest (leb (from + 1)) (choices rail) to target (grind (arith, nat_tests)) (sym (least_pair-is _) ∙ none)

  pub some_below : to < from → pick_low (choices rail) (from - 1) ≡ None → ⊥
  some_below falling none =
      best_some (λ a b. leb b a) highest (λ v. leb v (from - 1)) (choices rail) to target (grind (arith, nat_tests)) (sym (greatest_pair-is _) ∙ none)

  module _ (p : ℕ × ℕ) where
    pub above-is : from < to → pick_high (choices rail) (from + 1) ≡ Some p → IsAbove rail from to p
    above-is rising is =
        let ok = leb (from + 1) in
        let top = sym (least_pair-is _) ∙ is in
        let passes = best_passes leb lowest ok (choices rail) p top in
        let to_passes : leb (from + 1) to ≡ true = grind (arith, nat_tests) in
        let under = best_preferred leb lowest ok (choices rail) p top to target to_passes in
        let nearer : from < p.1 = grind (arith, nat_tests) in
        let not_past : p.1 ≤ to = grind (arith, nat_tests) in
        let nearest : (w : ℕ) → has w (allowed rail) ≡ true → ltb from w ≡ true → ltb w p.1 ≡ false =
        λ w here behind. above_not_below p.1 w (best_preferred leb lowest ok (choices rail) p top w here (above_passes from w behind)) in
        record {
          next =
              way-rising (allowed rail) from to (grind (arith, nat_tests))
              ∙ stretch-step ltb upward (allowed rail) from p.1 to (best_among leb lowest ok (choices rail) p top) (grind (arith, nat_tests)) (grind (arith, nat_tests)) nearest
              ∙ ap (λ vs. p.1 ∷ vs) (sym (way-rising (allowed rail) p.1 to (grind (arith, nat_tests))));
          first = best_first leb lowest ok (choices rail) p top;
          nearer = nearer;
          not_past = not_past;
        }

    pub below-is : to < from → pick_low (choices rail) (from - 1) ≡ Some p → IsBelow rail from to p
    below-is falling is =
        let ok = λ (v : ℕ). leb v (from - 1) in
        let keep = λ (a b : ℕ). leb b a in
        let top = sym (greatest_pair-is _) ∙ is in
        let passes = best_passes keep highest ok (choices rail) p top in
        let to_passes : leb to (from - 1) ≡ true = grind (arith, nat_tests) in
        let over = best_preferred keep highest ok (choices rail) p top to target to_passes in
        let nearer : p.1 < from = grind (arith, nat_tests) in
        let not_past : to ≤ p.1 = grind (arith, nat_tests) in
        let nearest : (w : ℕ) → has w (allowed rail) ≡ true → ltb w from ≡ true → ltb p.1 w ≡ false =
        λ w here behind. above_not_below w p.1 (best_preferred keep highest ok (choices rail) p top w here (below_passes from w behind)) in
        record {
          next =
              way-falling (allowed rail) from to (omega arith)
              ∙ stretch-step (λ a b. ltb b a) downward (allowed rail) from p.1 to (best_among keep highest ok (choices rail) p top) (grind (arith, nat_tests)) (grind (arith, nat_tests)) nearest
              ∙ ap (λ vs. p.1 ∷ vs) (sym (way-falling (allowed rail) p.1 to not_past));
          first = best_first keep highest ok (choices rail) p top;
          nearer = nearer;
          not_past = not_past;
        }

-- a pick that must be there is there
pub is_there : (o : Option Pick) (q : Option (ℕ × ℕ)) → option_map pair_of o ≡ q → (q ≡ None → ⊥) → IsSome o
is_there None q is there = absurd (there (sym is))
is_there (Some pick) q is there = refl
