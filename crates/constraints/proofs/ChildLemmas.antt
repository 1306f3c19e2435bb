-- The first good child of a name, one node more.
use Rattle.std.proofs.Common.{◌≡◌, ℕ, zero, suc, ◌+◌, Bool, cond, [], ◌∷◌, ◌++◌, Some, None, refl, ap, ◌∙◌, arith}
use Rattle.std.specs.List.{find, range_with_len}
use Rattle.std.specs.Option.{option_or}
use Rattle.std.specs.Ordering.{nat_cmp}
use Rattle.std.specs.BTreeMap.{BTreeMap, get, IsEmpty}
use Rattle.std.proofs.lemmas.List.Folds.{find-append}

-- a map without entries has nothing at a key
pub get-empty : (m : BTreeMap ℕ ℕ) (n : ℕ) → IsEmpty m → get nat_cmp m n ≡ None
get-empty m n none = rw none refl

range-more : (a n : ℕ) → range_with_len a (suc n) ≡ range_with_len a n ++ (a + n) ∷ []
range-more a zero = let e : a + 0 ≡ a = omega arith in rw e refl
range-more a (suc n) = let e : (a + 1) + n ≡ a + suc n = omega arith in ap (λ ks. a ∷ ks) (range-more (a + 1) n ∙ ap (λ k. range_with_len (a + 1) n ++ k ∷ []) e)

-- the first of one number more that passes
pub find-more : (test : ℕ → Bool) (n : ℕ) → find test (range_with_len 0 (n + 1)) ≡ option_or (find test (range_with_len 0 n)) (cond (test n) (Some n) None)
find-more test n =
    let next : n + 1 ≡ suc n = omega arith in
    let here : 0 + n ≡ n = omega arith in
    ap (λ k. find test (range_with_len 0 k)) next
    ∙ ap (find test) (range-more 0 n ∙ ap (λ k. range_with_len 0 n ++ k ∷ []) here)
    ∙ find-append test (range_with_len 0 n) (n ∷ [])
