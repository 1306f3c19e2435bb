-- What the searches for faults say of the list of ranges.
use Rattle.std.proofs.Common.{◌≡◌, ℕ, ◌+◌, ◌-◌, ◌<◌, ◌≤◌, Bool, true, false, List, [], ◌∷◌, Option, None, Some, length, get_or, take, drop, refl, sym, ◌∙◌, arith, add-one}
use Rattle.std.proofs.Math.Seq.{drop-cons}
use Rattle.std.proofs.lemmas.Bool.{ltb-false, leb-false}
use Rattle.std.proofs.lemmas.List.{take_rest}
use Rattle.std.proofs.lemmas.List.Elements.{All-nil, All-cons}
use Rattle.std.proofs.lemmas.List.Kept.{AllPairs-cons}
use Rattle.std.proofs.lemmas.Iterator.Adapters.{position_from-zero}
use Rattle.std.specs.List.{All, AllPairs, position, position_from}
use Rattle.linear_range.specs.declared.linear_range.LinearRange.{LinearRange}
use Rattle.linear_range.specs.LinearRange.{IsSound, is_reversed, is_too_high, share_selector}
use Rattle.linear_range.specs.RangeTable.{first_overlap}

drop_at : (xs : List LinearRange) (i : ℕ) (d : LinearRange) → i < length xs
    → drop i xs ≡ get_or xs i d ∷ drop (i + 1) xs
drop_at xs i d h = rw add-one (drop-cons xs i d h)

-- the ranges behind the one at i, as the slice of them is seen
abbrev behind : List LinearRange → ℕ → List LinearRange
behind xs i = take (length xs - (i + 1)) (drop (i + 1) xs)

-- the range at i has a selector in common with a later one
pub first_overlap_found : (xs : List LinearRange) (i k : ℕ) (d : LinearRange) → i < length xs
    → Some k ≡ position (share_selector (get_or xs i d)) (behind xs i)
    → first_overlap i (drop i xs) ≡ Some (i, i + 1 + k)
first_overlap_found xs i k d h found =
    let found_behind = rw (take_rest xs (i + 1)) at found in
    rw (drop_at xs i d h, ← found_behind)

-- it has none in common with any
pub first_overlap_later : (xs : List LinearRange) (i : ℕ) (d : LinearRange) → i < length xs
    → None ≡ position (share_selector (get_or xs i d)) (behind xs i)
    → first_overlap i (drop i xs) ≡ first_overlap (i + 1) (drop (i + 1) xs)
first_overlap_later xs i d h none =
    let none_behind = rw (take_rest xs (i + 1)) at none in
    rw (drop_at xs i d h, ← none_behind)

none_from_position_from : {X : Type 0} (p : X → Bool) (i : ℕ) (xs : List X)
    → position_from p i xs ≡ None → All (λ x. p x ≡ false) xs
none_from_position_from p i [] h = All-nil (λ x. p x ≡ false)
none_from_position_from p i (x ∷ xs) h = by_test (p x) refl (none_from_position_from p (i + 1) xs)
  where
    by_test : (b : Bool) → p x ≡ b → (position_from p (i + 1) xs ≡ None → All (λ y. p y ≡ false) xs)
        → All (λ y. p y ≡ false) (x ∷ xs)
    by_test true e rest = let f = rw e at h in cc
    by_test false e rest = All-cons (λ y. p y ≡ false) x xs e (rest (rw e at h))

-- where there is no first place, the test passes nowhere
pub none_from_position : {X : Type 0} (p : X → Bool) (xs : List X)
    → None ≡ position p xs → All (λ x. p x ≡ false) xs
none_from_position p xs h = none_from_position_from p 0 xs (sym (h ∙ position_from-zero p xs))

abbrev AreApart : LinearRange → LinearRange → Type 0
AreApart r s = share_selector r s ≡ false

apart_from_first_overlap : (i : ℕ) (rs : List LinearRange)
    → None ≡ first_overlap i rs → AllPairs AreApart rs
apart_from_first_overlap i [] h = λ i j d a b. absurd (omega arith)
apart_from_first_overlap i (r ∷ rs) h =
    by_first (position (share_selector r) rs) refl (apart_from_first_overlap (i + 1) rs)
  where
    by_first : (o : Option ℕ) → position (share_selector r) rs ≡ o
        → (None ≡ first_overlap (i + 1) rs → AllPairs AreApart rs) → AllPairs AreApart (r ∷ rs)
    by_first None e rest =
        AllPairs-cons AreApart r rs (none_from_position (share_selector r) rs (sym e)) (rest (rw e at h))
    by_first (Some k) e rest = let f = rw e at h in cc

-- a list of ranges without a fault is a table
pub sound_from_searches : (n : ℕ) (rs : List LinearRange) → length rs ≤ n
    → None ≡ position is_reversed rs → None ≡ position is_too_high rs → None ≡ first_overlap 0 rs
    → IsSound n rs
sound_from_searches n rs few reversed high overlap = record {
  few = few;
  fitting = λ k d h. (
    ltb-false _ _ (none_from_position is_reversed rs reversed k d h),
    leb-false _ _ (none_from_position is_too_high rs high k d h),
  );
  apart = apart_from_first_overlap 0 rs overlap;
}
