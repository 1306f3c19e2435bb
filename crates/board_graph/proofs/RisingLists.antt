-- Rising lists with the same numbers are equal.
use Rattle.std.proofs.Common.{◌≡◌, ℕ, zero, suc, ◌<◌, ◌⊎◌, inl, inr, List, [], ◌∷◌, length, get_or, refl, sym, ◌∙◌, arith, AllPairs, Contains}
use Rattle.std.proofs.lemmas.List.{get_or_default}

abbrev Rises : List ℕ → Type 0
Rises xs = AllPairs (λ i j. i < j) xs

-- each number of the first is in the second
abbrev Within : List ℕ → List ℕ → Type 0
Within xs ys = (i : ℕ) → Contains xs i → Contains ys i

rest_rises : (x : ℕ) (xs : List ℕ) → Rises (x ∷ xs) → Rises xs
rest_rises x xs rises i j d less within = rises (suc i) (suc j) d (omega arith) (omega arith)

first_least : (x i : ℕ) (xs : List ℕ) → Rises (x ∷ xs) → Contains xs i → x < i
first_least x i xs rises has =
    let e : get_or xs has.0 0 ≡ i = get_or_default xs has.0 0 i has.1 ∙ has.2 in
    omega (arith, e, rises 0 (suc has.0) 0 (omega arith) (omega (arith, has.1)))

first_or_rest : (x i : ℕ) (xs : List ℕ) → Contains (x ∷ xs) i → (x ≡ i) ⊎ Contains xs i
first_or_rest x i xs has = by has.0 has.1 has.2 where
  by : (k : ℕ) → k < suc (length xs) → get_or (x ∷ xs) k i ≡ i → (x ≡ i) ⊎ Contains xs i
  by zero within is = inl is
  by (suc k) within is = inr (k, omega arith, is)

in_rest : (x y : ℕ) (xs ys : List ℕ) → x ≡ y → Rises (x ∷ xs) → Within (x ∷ xs) (y ∷ ys) → Within xs ys
in_rest x y xs ys same rises within i has = elim (first_or_rest y i ys (within i (suc has.0, omega (arith, has.1), has.2))) [
  | inl here ↦ absurd (omega (arith, same, here, first_least x i xs rises has))
  | inr there ↦ there
]

pub rising_same : (xs ys : List ℕ) → Rises xs → Rises ys → Within xs ys → Within ys xs → xs ≡ ys
rising_same [] [] first second there back = refl
rising_same [] (y ∷ ys) first second there back = let has = back y (0, omega arith, refl) in absurd (omega (arith, has.1))
rising_same (x ∷ xs) [] first second there back = let has = there x (0, omega arith, refl) in absurd (omega (arith, has.1))
rising_same (x ∷ xs) (y ∷ ys) first second there back =
    let same : x ≡ y = elim (first_or_rest y x ys (there x (0, omega arith, refl))) [
      | inl here ↦ sym here
      | inr above ↦ elim (first_or_rest x y xs (back y (0, omega arith, refl))) [
        | inl here ↦ here
        | inr below ↦ absurd (omega (arith, first_least y x ys second above, first_least x y xs first below))
      ]
    ] in
    let rest : xs ≡ ys = rising_same xs ys (rest_rises x xs first) (rest_rises y ys second) (in_rest x y xs ys same first there) (in_rest y x ys xs (sym same) second back) in
    cc (same, rest)
