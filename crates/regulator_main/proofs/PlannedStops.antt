-- Where a plan stops a load first.
use Rattle.std.proofs.Common.{◌≡◌, ℕ, zero, suc, ◌+◌, ◌<◌, Bool, true, false, Option, Some, None, cond, refl, sym, ap, ◌∙◌, arith}
use Rattle.std.specs.Prelude.{find}
use Rattle.std.specs.List.{range_with_len}
use Rattle.regulator_main.specs.Bringing.{planned_stop}

module _ (test : ℕ → Bool) where
  -- the first number of a range doesn't pass, nor does any after it
  none_here : (from : ℕ) (rest : Option ℕ) (b : Bool) → cond b (Some from) rest ≡ None → (b ≡ false) × (rest ≡ None)
  none_here from rest true none = absurd cc
  none_here from rest false none = (refl, none)

  -- where no number of a range passes, this one of them doesn't
  none_passes : (count k from : ℕ) → find test (range_with_len from count) ≡ None → k < count → test (from + k) ≡ true → ⊥
  none_passes zero k from none below passes = absurd (omega (arith, below))
  none_passes (suc count) zero from none below passes =
      let same : from + 0 ≡ from = omega arith in
      let fails = (none_here from (find test (range_with_len (from + 1) count)) (test from) none).0 in
      let passes' : test from ≡ true = ap test (sym same) ∙ passes in
      absurd cc
  none_passes (suc count) (suc k) from none below passes =
      let same : from + suc k ≡ from + 1 + k = omega arith in
      let rest = (none_here from (find test (range_with_len (from + 1) count)) (test from) none).1 in
      none_passes count k (from + 1) rest (omega (arith, below)) (ap test (sym same) ∙ passes)

  -- the first number of a range that passes
  first_passes : (count k from first : ℕ) → find test (range_with_len from count) ≡ Some first → find test (range_with_len from k) ≡ None → k < count → test (from + k) ≡ true → first ≡ from + k
  first_passes zero k from first some none below passes = absurd (omega (arith, below))
  first_passes (suc count) zero from first some none below passes =
      let same : from + 0 ≡ from = omega arith in
      let here : test from ≡ true = ap test (sym same) ∙ passes in
      let is : Some from ≡ Some first = ap (λ b. cond b (Some from) (find test (range_with_len (from + 1) count))) (sym here) ∙ some in
      let is' : from ≡ first = cc in
      sym is' ∙ sym same
  first_passes (suc count) (suc k) from first some none below passes =
      let same : from + suc k ≡ from + 1 + k = omega arith in
      let left = none_here from (find test (range_with_len (from + 1) k)) (test from) none in
      let some' : find test (range_with_len (from + 1) count) ≡ Some first =
      ap (λ b. cond b (Some from) (find test (range_with_len (from + 1) count))) (sym left.0) ∙ some in
      first_passes count k (from + 1) first some' left.1 (omega (arith, below)) (ap test (sym same) ∙ passes) ∙ sym same

module _ (planned : ℕ → Bool) where
  -- where nothing is planned to be stopped, this update isn't
  pub none_stops : (count k : ℕ) → planned_stop planned count ≡ None → k < count → planned (k + 1) ≡ true → ⊥
  none_stops count k none below is =
      let same : 0 + k ≡ k = omega arith in
      none_passes (λ made. planned (made + 1)) count k 0 none below (ap (λ n. planned (n + 1)) same ∙ is)

  -- one that is planned to be stopped, with none before it, is the first
  pub first_stops : (count k first : ℕ) → planned_stop planned count ≡ Some first → planned_stop planned k ≡ None → k < count → planned (k + 1) ≡ true → first ≡ k
  first_stops count k first some none below is =
      let same : 0 + k ≡ k = omega arith in
      first_passes (λ made. planned (made + 1)) count k 0 first some none below (ap (λ n. planned (n + 1)) same ∙ is) ∙ same
