-- Numbers in a row, one more.
use Rattle.std.proofs.Common.{◌≡◌, ℕ, zero, suc, ◌+◌, ◌-◌, ◌<◌, ◌≤◌, [], ◌∷◌, ◌++◌, Bool, true, false, cond, Some, refl, ap, ◌∙◌, arith}
use Rattle.std.specs.List.{range_with_len, filter, find}
use Rattle.std.proofs.lemmas.Bool.{cond-true, cond-false}
use Rattle.std.proofs.lemmas.List.Elements.{filter-append}

pub range-more : (a n : ℕ) → range_with_len a (n + 1) ≡ range_with_len a n ++ (a + n) ∷ []
range-more a zero = let e : a ≡ a + 0 = omega arith in ap (λ x. x ∷ []) e
range-more a (suc n) =
    let more : suc n + 1 ≡ suc (n + 1) = omega arith in
    let same : a + 1 + n ≡ a + suc n = omega arith in
    ap (range_with_len a) more ∙ ap (λ xs. a ∷ xs) (range-more (a + 1) n ∙ ap (λ x. range_with_len (a + 1) n ++ x ∷ []) same)

-- the numbers that pass, one number more
pub filter-more : (p : ℕ → Bool) (k : ℕ) → filter p (range_with_len 0 (k + 1)) ≡ filter p (range_with_len 0 k) ++ cond (p k) (k ∷ []) []
filter-more p k =
    let same : 0 + k ≡ k = omega arith in
    ap (filter p) (range-more 0 k ∙ ap (λ x. range_with_len 0 k ++ x ∷ []) same) ∙ filter-append p (range_with_len 0 k) (k ∷ [])

pub range-step : (k n : ℕ) → k < n → range_with_len k (n - k) ≡ k ∷ range_with_len (k + 1) (n - (k + 1))
range-step k n inside =
    let more : n - k ≡ suc (n - (k + 1)) = omega (arith, inside) in rw more refl

pub range-end : (k n : ℕ) → n ≤ k → range_with_len k (n - k) ≡ []
range-end k n past =
    let none : n - k ≡ 0 = omega (arith, past) in rw none refl

pub range-all : (n : ℕ) → range_with_len 0 (n - 0) ≡ range_with_len 0 n
range-all n = let all : n - 0 ≡ n = omega arith in ap (range_with_len 0) all

-- the first number that passes, from one that does, and from one that doesn't
pub find-here : (p : ℕ → Bool) (k n : ℕ) → k < n → p k ≡ true → find p (range_with_len k (n - k)) ≡ Some k
find-here p k n inside passes = ap (find p) (range-step k n inside) ∙ cond-true (p k) (Some k) (find p (range_with_len (k + 1) (n - (k + 1)))) passes

pub find-past : (p : ℕ → Bool) (k n : ℕ) → k < n → p k ≡ false → find p (range_with_len k (n - k)) ≡ find p (range_with_len (k + 1) (n - (k + 1)))
find-past p k n inside fails = ap (find p) (range-step k n inside) ∙ cond-false (p k) (Some k) (find p (range_with_len (k + 1) (n - (k + 1)))) fails
