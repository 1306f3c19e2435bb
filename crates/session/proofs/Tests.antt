-- Lists, and tests of their items.
use Rattle.std.proofs.Common.{◌≡◌, ℕ, zero, suc, ◌+◌, ◌<◌, Bool, true, false, cond, ◌||◌, List, [], ◌∷◌, length, map, get_or, Option, Some, None, refl, sym, ap, ◌∙◌, arith}
use Rattle.std.specs.Prelude.{find, slice_get, unwrap_or, All}
use Rattle.std.specs.List.{AllWithin, enumerate_from, list_any, range_with_len}
use Rattle.std.specs.Option.{option_map}
use Rattle.std.proofs.lemmas.Bool.{false≢true}
use Rattle.std.proofs.lemmas.List.Elements.{All-nil, All-cons}

-- neither of two tests
pub neither : (a b : Bool) → (a || b) ≡ false → (a ≡ false) × (b ≡ false)
neither true b both = absurd (false≢true (sym both))
neither false b both = (refl, both)

-- a test that passes for no item passes for none of the list's
pub none_passes : {X : Type 0} (test : X → Bool) (xs : List X) (k : ℕ) (x : X) → list_any test xs ≡ false → slice_get xs k ≡ Some x → test x ≡ false
none_passes test [] k x none there = cc
none_passes test (y ∷ xs) zero x none there = let same : y ≡ x = grind arith in ap test (sym same) ∙ (neither (test y) (list_any test xs) none).0
none_passes test (y ∷ xs) (suc k) x none there = none_passes test xs k x (neither (test y) (list_any test xs) none).1 there

-- the same of the numbers from one on
pub no_number : (test : ℕ → Bool) (from count k : ℕ) → list_any test (range_with_len from count) ≡ false → k < count → test (from + k) ≡ false
no_number test from zero k none within = absurd (omega (arith, within))
no_number test from (suc count) zero none within = let same : from + 0 ≡ from = omega arith in ap test same ∙ (neither (test from) (list_any test (range_with_len (from + 1) count)) none).0
no_number test from (suc count) (suc k) none within =
    let same : from + suc k ≡ from + 1 + k = omega arith in
    ap test same ∙ no_number test (from + 1) count k (neither (test from) (list_any test (range_with_len (from + 1) count)) none).1 (omega (arith, within))

-- and of all numbers below one
pub no_number_below : (test : ℕ → Bool) (count k : ℕ) → list_any test (range_with_len 0 count) ≡ false → k < count → test k ≡ false
no_number_below test count k none within = let same : 0 + k ≡ k = omega arith in ap test (sym same) ∙ no_number test 0 count k none within

pub none_linked : (links : List Bool) (k : ℕ) → list_any (λ link. link) links ≡ false → unwrap_or (slice_get links k) false ≡ false
none_linked [] k none = refl
none_linked (link ∷ links) zero none = (neither link (list_any (λ link. link) links) none).0
none_linked (link ∷ links) (suc k) none = none_linked links k (neither link (list_any (λ link. link) links) none).1

module _ {X : Type 0} (test : X → Bool) where
  -- the items before it fail, and this one passes
  pub find_at : (from at : ℕ) (xs : List X) (d : X) → AllWithin (λ y. test y ≡ false) xs 0 at → at < length xs → test (get_or xs at d) ≡ true
      → find (λ y. test y.1) (enumerate_from from xs) ≡ Some (from + at, get_or xs at d)
  find_at from at [] d before within passes = absurd (omega (arith, within))
  find_at from zero (y ∷ xs) d before within passes =
      let here : test y ≡ true = passes in
      let same : from ≡ from + 0 = omega arith in
      rw here (ap (λ n. Some (n, y)) same)
  find_at from (suc at) (y ∷ xs) d before within passes =
      let fails : test y ≡ false = before 0 y (omega arith) (omega arith) in
      let same : from + 1 + at ≡ from + suc at = omega arith in
      let later = find_at (from + 1) at xs d (λ k e low high. before (suc k) e (omega arith) (omega (arith, high))) (omega (arith, within)) passes in
      rw fails (later ∙ ap (λ n. Some (n, get_or xs at d)) same)

  -- all items fail
  pub find_none : (from : ℕ) (xs : List X) → All (λ y. test y ≡ false) xs → find (λ y. test y.1) (enumerate_from from xs) ≡ None
  find_none from [] all = refl
  find_none from (y ∷ xs) all =
      let fails : test y ≡ false = all 0 y (omega arith) in
      rw fails (find_none (from + 1) xs (λ k d within. all (suc k) d (omega (arith, within))))

  by_first : (y : X) (from : ℕ) (xs : List X) (b : Bool) → test y ≡ b → cond b (Some (from, y)) (find (λ y. test y.1) (enumerate_from (from + 1) xs)) ≡ None
      → (test y ≡ false) × (find (λ y. test y.1) (enumerate_from (from + 1) xs) ≡ None)
  by_first y from xs true is none = absurd (grind arith)
  by_first y from xs false is none = (is, none)

  pub none_found : (from : ℕ) (xs : List X) → find (λ y. test y.1) (enumerate_from from xs) ≡ None → All (λ y. test y ≡ false) xs
  none_found from [] none = All-nil (λ y. test y ≡ false)
  none_found from (y ∷ xs) none =
      let both = by_first y from xs (test y) refl none in
      All-cons (λ y. test y ≡ false) y xs both.0 (none_found (from + 1) xs both.1)

-- what came of a value
pub mapped_some : {X Y : Type 0} (f : X → Y) (o : Option X) (y : Y) → option_map f o ≡ Some y → (x : X) × (o ≡ Some x) × (f x ≡ y)
mapped_some f None y is = absurd (grind arith)
mapped_some f (Some x) y is = (x, refl, grind arith)

pub mapped_none : {X Y : Type 0} (f : X → Y) (o : Option X) → option_map f o ≡ None → o ≡ None
mapped_none f None is = refl
mapped_none f (Some x) is = absurd (grind arith)

-- what holds of all that comes of a list
pub unmapped : {X Y : Type 0} (P : Y → Type 0) (f : X → Y) (xs : List X) → All P (map f xs) → All (λ x. P (f x)) xs
unmapped P f [] all = All-nil (λ x. P (f x))
unmapped P f (x ∷ xs) all = All-cons (λ x. P (f x)) x xs (all 0 (f x) (omega arith)) (unmapped P f xs (λ k d within. all (suc k) d (omega (arith, within))))
