-- What a table has, and what its picks are.
use Rattle.std.proofs.Common.{◌≡◌, ℕ, ◌+◌, ◌-◌, ◌*◌, ◌<◌, ◌≤◌, max, Bool, true, false, ◌&&◌, leb, List, [], ◌∷◌, ◌++◌, Option, None, Some, refl, sym, ◌∙◌, ◌⊎◌, inl, inr, arith}
use Rattle.std.proofs.lemmas.Bool.{leb-true, le-leb, false≢true, and_parts, and_from}
use Rattle.std.proofs.lemmas.List.Elements.{All-head, All-tail}
use Rattle.std.specs.Option.{option_or}
use Rattle.std.specs.List.{All}
use Rattle.linear_range.specs.declared.linear_range.LinearRange.{LinearRange}
use Rattle.linear_range.specs.LinearRange.{share_selector}
use Rattle.linear_range.specs.Values.{value_in, value_of, selectors_end, values, pick_high, pick_low}
use Rattle.linear_range.proofs.Picks.{upwards, downwards, upwards_order, downwards_order, BestOf, IsUnion, InSegment, best_unique, best_of_segment, least_pair-is, greatest_pair-is}

-- the selector has this value in the range
pub record IsMember (r : LinearRange) (sel uv : ℕ) : Type 0 where
  pub from : r.min_sel ≤ sel
  pub to : sel ≤ r.max_sel
  pub value : uv ≡ r.min + (sel - r.min_sel) * r.step

pub member_from_value_in : (r : LinearRange) (sel uv : ℕ) → value_in r sel ≡ Some uv → IsMember r sel uv
member_from_value_in r sel uv h = by_test (leb r.min_sel sel && leb sel r.max_sel) refl
  where
    by_test : (b : Bool) → (leb r.min_sel sel && leb sel r.max_sel) ≡ b → IsMember r sel uv
    by_test true e =
        let parts = and_parts _ _ e in
        let same = rw e at h in
        record { from = leb-true _ _ parts.0; to = leb-true _ _ parts.1; value = cc }
    by_test false e = let none = rw e at h in cc

pub value_in-member : (r : LinearRange) (sel uv : ℕ) → IsMember r sel uv → value_in r sel ≡ Some uv
value_in-member r sel uv m = rw (le-leb _ _ m.from, le-leb _ _ m.to, m.value) refl

-- the selector has this value in the table
abbrev pub HasValue : List LinearRange → ℕ → ℕ → Type 0
HasValue rs sel uv = value_of rs sel ≡ Some uv

pub value_of-below : (rs : List LinearRange) (sel uv : ℕ) → HasValue rs sel uv → sel < selectors_end rs
value_of-below [] sel uv h = cc
value_of-below (r ∷ rs) sel uv h = by_value (value_in r sel) refl (value_of-below rs sel uv)
  where
    by_value : (o : Option ℕ) → value_in r sel ≡ o → (HasValue rs sel uv → sel < selectors_end rs)
        → sel < max (r.max_sel + 1) (selectors_end rs)
    by_value None e later = let below : sel < selectors_end rs = later (rw e at h) in omega arith
    by_value (Some v) e later = let to : sel ≤ r.max_sel = (member_from_value_in r sel v e).to in omega arith

pub in_segment : (rs : List LinearRange) (sel uv : ℕ) → HasValue rs sel uv
    → InSegment (value_of rs) 0 (selectors_end rs) sel uv
in_segment rs sel uv h = let below : sel < selectors_end rs = value_of-below rs sel uv h in (omega arith, omega arith, h)

-- the picks of the list are picks of what the table has
module _ (rs : List LinearRange) (u : ℕ) where
  best_all : (ok : ℕ → Bool) (le : ℕ → ℕ → Bool) (o : Option (ℕ × ℕ))
      → BestOf ok le (InSegment (value_of rs) 0 (selectors_end rs)) o → BestOf ok le (HasValue rs) o
  best_all ok le None b = λ sel uv m. b sel uv (in_segment rs sel uv m)
  best_all ok le (Some p) b = record {
    has = b.has.2;
    allowed = b.allowed;
    best = λ sel uv m h. b.best sel uv (in_segment rs sel uv m) h;
    first = λ sel m. b.first sel (in_segment rs sel p.1 m);
  }

  pub pick_high-best : BestOf (λ uv. leb u uv) upwards (HasValue rs) (pick_high (values rs) u)
  unfolding values
  pick_high-best =
      rw (least_pair-is _) (best_all (λ uv. leb u uv) upwards _
      (best_of_segment (λ uv. leb u uv) upwards upwards_order (value_of rs) 0 (selectors_end rs)))

  pub pick_low-best : BestOf (λ uv. leb uv u) downwards (HasValue rs) (pick_low (values rs) u)
  unfolding values
  pick_low-best =
      rw (greatest_pair-is _) (best_all (λ uv. leb uv u) downwards _
      (best_of_segment (λ uv. leb uv u) downwards downwards_order (value_of rs) 0 (selectors_end rs)))

  pub pick_high-is : (o : Option (ℕ × ℕ)) → BestOf (λ uv. leb u uv) upwards (HasValue rs) o
      → o ≡ pick_high (values rs) u
  pick_high-is o b = best_unique (λ uv. leb u uv) upwards upwards_order (HasValue rs) o _ b pick_high-best

  pub pick_low-is : (o : Option (ℕ × ℕ)) → BestOf (λ uv. leb uv u) downwards (HasValue rs) o
      → o ≡ pick_low (values rs) u
  pick_low-is o b = best_unique (λ uv. leb uv u) downwards downwards_order (HasValue rs) o _ b pick_low-best

pub value_of-append : (rs : List LinearRange) (r : LinearRange) (sel : ℕ)
    → value_of (rs ++ r ∷ []) sel ≡ option_or (value_of rs sel) (value_of (r ∷ []) sel)
value_of-append [] r sel = refl
value_of-append (s ∷ rs) r sel = by_value (value_in s sel) refl (value_of-append rs r sel)
  where
    by_value : (o : Option ℕ) → value_in s sel ≡ o
        → value_of (rs ++ r ∷ []) sel ≡ option_or (value_of rs sel) (value_of (r ∷ []) sel)
        → value_of (s ∷ rs ++ r ∷ []) sel ≡ option_or (value_of (s ∷ rs) sel) (value_of (r ∷ []) sel)
    by_value None e later = rw e later
    by_value (Some v) e later = rw e refl

-- two ranges without a common selector
value_in-apart : (s r : LinearRange) (sel uv : ℕ) → share_selector s r ≡ false
    → value_in r sel ≡ Some uv → value_in s sel ≡ None
value_in-apart s r sel uv apart h = by_value (value_in s sel) refl
  where
    by_value : (o : Option ℕ) → value_in s sel ≡ o → value_in s sel ≡ None
    by_value None e = e
    by_value (Some v) e =
        let m = member_from_value_in r sel uv h in
        let n = member_from_value_in s sel v e in
        let a : s.min_sel ≤ r.max_sel = omega (arith, m.to, n.from) in
        let b : r.min_sel ≤ s.max_sel = omega (arith, m.from, n.to) in
        absurd (false≢true (sym apart ∙ and_from _ _ (le-leb _ _ a) (le-leb _ _ b)))

-- a range that has no selector in common with any of the ranges
abbrev pub IsApart : LinearRange → List LinearRange → Type 0
IsApart r rs = All (λ s. share_selector s r ≡ false) rs

pub value_of-apart : (rs : List LinearRange) (r : LinearRange) (sel uv : ℕ) → IsApart r rs
    → value_in r sel ≡ Some uv → value_of rs sel ≡ None
value_of-apart [] r sel uv apart h = refl
value_of-apart (s ∷ rs) r sel uv apart h =
    rw (value_in-apart s r sel uv (All-head (λ t. share_selector t r ≡ false) s rs apart) h)
    (value_of-apart rs r sel uv (All-tail (λ t. share_selector t r ≡ false) s rs apart) h)

pub value_of-single : (r : LinearRange) (sel : ℕ) → value_of (r ∷ []) sel ≡ value_in r sel
value_of-single r sel = by_value (value_in r sel)
  where
    by_value : (o : Option ℕ) → option_or o None ≡ o
    by_value None = refl
    by_value (Some v) = refl

-- what a table has with one more range
pub table_union : (rs : List LinearRange) (r : LinearRange) → IsApart r rs
    → IsUnion (HasValue rs) (HasValue (r ∷ [])) (HasValue (rs ++ r ∷ []))
table_union rs r apart = record {
  left = λ sel uv h. rw (value_of-append rs r sel, h) refl;
  right = λ sel uv h.
      rw (value_of-append rs r sel, value_of-apart rs r sel uv apart (sym (value_of-single r sel) ∙ h)) h;
  either = λ sel uv h. by_value sel uv (value_of rs sel) refl (sym (value_of-append rs r sel) ∙ h);
}
  where
    by_value : (sel uv : ℕ) (o : Option ℕ) → value_of rs sel ≡ o
        → option_or (value_of rs sel) (value_of (r ∷ []) sel) ≡ Some uv
        → HasValue rs sel uv ⊎ HasValue (r ∷ []) sel uv
    by_value sel uv None e h = inr (rw e at h)
    by_value sel uv (Some v) e h = inl (e ∙ (rw e at h))

-- one range
pub member_from_single : (r : LinearRange) (sel uv : ℕ) → HasValue (r ∷ []) sel uv → IsMember r sel uv
member_from_single r sel uv h = member_from_value_in r sel uv (sym (value_of-single r sel) ∙ h)

pub single_from_member : (r : LinearRange) (sel uv : ℕ) → IsMember r sel uv → HasValue (r ∷ []) sel uv
single_from_member r sel uv m = value_of-single r sel ∙ value_in-member r sel uv m
