-- The first number of a range, and the first pair, that passes a test.
use Rattle.std.proofs.Common.{◌≡◌, ℕ, zero, suc, ◌+◌, ◌<◌, ◌≤◌, Bool, true, false, cond, List, [], ◌∷◌, Option, Some, None, inl, inr, refl, sym, ap, ◌∙◌, subst, arith, map}
use Rattle.std.specs.Prelude.{find, flat_map, option_map}
use Rattle.std.specs.List.{range_with_len}
use Rattle.std.specs.Option.{option_or}
use Rattle.std.proofs.lemmas.Bool.{cases_order}
use Rattle.std.proofs.lemmas.List.Folds.{find-append}

module _ (test : ℕ → Bool) where
  -- none passes, and the search of a range
  pub none_passes : (a n : ℕ) → ((k : ℕ) → a ≤ k → k < a + n → test k ≡ false) → find test (range_with_len a n) ≡ None
  none_passes a zero fails = refl
  none_passes a (suc n) fails = rw (fails a (omega arith) (omega arith)) (none_passes (a + 1) n (λ k from below. fails k (omega arith) (omega arith)))

  pub fails_below : (a n : ℕ) → find test (range_with_len a n) ≡ None → (k : ℕ) → a ≤ k → k < a + n → test k ≡ false
  fails_below a zero none k from below = absurd (omega arith)
  fails_below a (suc n) none k from below =
      (elim (test a) as (λ t. test a ≡ t → cond t (Some a) (find test (range_with_len (a + 1) n)) ≡ None → test k ≡ false) [
        | true ↦ λ _ first. absurd (cc)
        | false ↦ λ fails later. elim (cases_order a k) [
          | inl here ↦ subst (λ m. test m ≡ false) here fails
          | inr apart ↦ elim apart [
            | inl more ↦ fails_below (a + 1) n later k (omega arith) (omega arith)
            | inr less ↦ absurd (omega arith)
          ]
        ]
      ]) refl none

  -- the first that passes
  pub first_passes : (a n k : ℕ) → a ≤ k → k < a + n → test k ≡ true → ((j : ℕ) → a ≤ j → j < k → test j ≡ false) → find test (range_with_len a n) ≡ Some k
  first_passes a zero k from below passes fails = absurd (omega arith)
  first_passes a (suc n) k from below passes fails = elim (cases_order a k) [
    | inl here ↦ let first : test a ≡ true = subst (λ m. test m ≡ true) (sym here) passes in rw first (ap Some here)
    | inr apart ↦ elim apart [
      | inl more ↦ rw (fails a (omega arith) more) (first_passes (a + 1) n k (omega arith) (omega arith) passes (λ j far near. fails j (omega arith) near))
      | inr less ↦ absurd (omega arith)
    ]
  ]

  -- what was found passes, is of the range, and none before it passes
  pub record IsFirst (a n k : ℕ) : Type 0 where
    pub from : a ≤ k
    pub below : k < a + n
    pub passes : test k ≡ true
    pub others : (j : ℕ) → a ≤ j → j < k → test j ≡ false

  pub is_first : (a n k : ℕ) → find test (range_with_len a n) ≡ Some k → IsFirst a n k
  is_first a zero k found = absurd (cc)
  is_first a (suc n) k found =
      (elim (test a) as (λ t. test a ≡ t → cond t (Some a) (find test (range_with_len (a + 1) n)) ≡ Some k → IsFirst a (suc n) k) [
        | true ↦ λ passes first.
            let here : a ≡ k = cc in
            record { from = omega arith; below = omega arith; passes = subst (λ m. test m ≡ true) here passes; others = λ j far near. absurd (omega arith) }
        | false ↦ λ fails later.
            let rest = is_first (a + 1) n k later in
            record {
              from = omega (arith, rest.from);
              below = omega (arith, rest.below);
              passes = rest.passes;
              others = λ j far near. elim (cases_order a j) [
                | inl here ↦ subst (λ m. test m ≡ false) here fails
                | inr apart ↦ elim apart [ inl more ↦ rest.others j (omega arith) near | inr less ↦ absurd (omega arith) ]
              ];
            }
      ]) refl found

-- what was found passes
pub found_passes : {X : Type 0} (test : X → Bool) (xs : List X) (x : X) → find test xs ≡ Some x → test x ≡ true
found_passes test [] x found = absurd (cc)
found_passes {X = X} test (y ∷ xs) x found =
    (elim (test y) as (λ t. test y ≡ t → cond t (Some y) (find test xs) ≡ Some x → test x ≡ true) [
      | true ↦ λ passes first. let here : y ≡ x = cc in subst (λ (z : X). test z ≡ true) here passes
      | false ↦ λ _ later. found_passes test xs x later
    ]) refl found

-- pairs, by the first and then by the second
module _ (test : ℕ → ℕ → Bool) (seconds : List ℕ) where
  abbrev passes : ℕ × ℕ → Bool
  passes pair = test pair.0 pair.1

  abbrev pairs : List ℕ → List (ℕ × ℕ)
  pairs firsts = flat_map (λ a. map (λ b. (a, b)) seconds) firsts

  with_first : (a : ℕ) (bs : List ℕ) → find passes (map (λ b. (a, b)) bs) ≡ option_map (λ b. (a, b)) (find (test a) bs)
  with_first a [] = refl
  with_first a (b ∷ bs) = by (test a b) (with_first a bs) where
    by : (t : Bool) → find passes (map (λ b. (a, b)) bs) ≡ option_map (λ b. (a, b)) (find (test a) bs)
        → cond t (Some (a, b)) (find passes (map (λ b. (a, b)) bs)) ≡ option_map (λ b. (a, b)) (cond t (Some b) (find (test a) bs))
    by true rest = refl
    by false rest = rest

  one_more : (a : ℕ) (firsts : List ℕ) → find passes (pairs (a ∷ firsts)) ≡ option_or (option_map (λ b. (a, b)) (find (test a) seconds)) (find passes (pairs firsts))
  one_more a firsts = find-append passes (map (λ b. (a, b)) seconds) (pairs firsts) ∙ ap (λ o. option_or o (find passes (pairs firsts))) (with_first a seconds)

  pub no_pair : (a n : ℕ) → ((k : ℕ) → a ≤ k → k < a + n → find (test k) seconds ≡ None) → find passes (pairs (range_with_len a n)) ≡ None
  no_pair a zero none = refl
  no_pair a (suc n) none =
      one_more a (range_with_len (a + 1) n)
      ∙ ap (λ o. option_or (option_map (λ b. (a, b)) o) (find passes (pairs (range_with_len (a + 1) n)))) (none a (omega arith) (omega arith))
      ∙ no_pair (a + 1) n (λ k from below. none k (omega arith) (omega arith))

  pub first_fails : (a n : ℕ) → find passes (pairs (range_with_len a n)) ≡ None → (k : ℕ) → a ≤ k → k < a + n → find (test k) seconds ≡ None
  first_fails a zero none k from below = absurd (omega arith)
  first_fails a (suc n) none k from below =
      let parts = neither (find (test a) seconds) (find passes (pairs (range_with_len (a + 1) n))) (sym (one_more a (range_with_len (a + 1) n)) ∙ none) in
      elim (cases_order a k) [
        | inl here ↦ subst (λ m. find (test m) seconds ≡ None) here parts.0
        | inr apart ↦ elim apart [
          | inl more ↦ first_fails (a + 1) n parts.1 k (omega arith) (omega arith)
          | inr less ↦ absurd (omega arith)
        ]
      ]
    where
      neither : (o : Option ℕ) (p : Option (ℕ × ℕ)) → option_or (option_map (λ b. (a, b)) o) p ≡ None → (o ≡ None) × (p ≡ None)
      neither None p is = (refl, is)
      neither (Some b) p is = absurd (cc)

  pub first_pair : (a n k b : ℕ) → a ≤ k → k < a + n → find (test k) seconds ≡ Some b → ((j : ℕ) → a ≤ j → j < k → find (test j) seconds ≡ None)
      → find passes (pairs (range_with_len a n)) ≡ Some (k, b)
  first_pair a zero k b from below found none = absurd (omega arith)
  first_pair a (suc n) k b from below found none =
      one_more a (range_with_len (a + 1) n)
      ∙ elim (cases_order a k) [
        | inl here ↦ ap (λ m. option_or (option_map (λ b. (m, b)) (find (test m) seconds)) (find passes (pairs (range_with_len (a + 1) n)))) here
            ∙ ap (λ o. option_or (option_map (λ b. (k, b)) o) (find passes (pairs (range_with_len (a + 1) n)))) found
        | inr apart ↦ elim apart [
          | inl more ↦ ap (λ o. option_or (option_map (λ b. (a, b)) o) (find passes (pairs (range_with_len (a + 1) n)))) (none a (omega arith) more)
              ∙ first_pair (a + 1) n k b (omega arith) (omega arith) found (λ j far near. none j (omega arith) near)
          | inr less ↦ absurd (omega arith)
        ]
      ]
