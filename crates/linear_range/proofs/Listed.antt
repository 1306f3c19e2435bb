-- The written-out pairs of a table, and what the picks are among them.
use Rattle.std.proofs.Common.{◌≡◌, ℕ, zero, suc, ◌+◌, ◌^◌, ◌<◌, ◌≤◌, List, [], ◌∷◌, Option, None, Some, refl, subst, ◌⊎◌, inl, inr, arith}
use Rattle.std.proofs.lemmas.Bool.{cases_eq}
use Rattle.std.proofs.lemmas.List.Elements.{All-nil, All-cons, All-head, All-tail, All-weaker, All-contains, Contains-append_right}
use Rattle.std.proofs.lemmas.List.Kept.{AllPairs-cons}
use Rattle.std.specs.List.{All, AllPairs, Contains}
use Rattle.linear_range.specs.declared.linear_range.LinearRange.{LinearRange}
use Rattle.linear_range.specs.LinearRange.{IsSound, IsFitting}
use Rattle.value_list.proofs.Extremes as pairs
use Rattle.linear_range.specs.Values.{value_in, value_of, selectors_end, values}
use Rattle.linear_range.specs.Laws.{ListsValues, SelectorsRise, IsBounded, PicksHigh, PicksLow}
use Rattle.linear_range.proofs.Picks.{InSegment, pairs_between}
use Rattle.linear_range.proofs.Tables.{HasValue, in_segment, value_of-below, member_from_value_in}
use Rattle.linear_range.proofs.Singles.{member_high}

module _ (value : ℕ → Option ℕ) where
  abbrev IsIn : ℕ → ℕ → ℕ × ℕ → Type 0
  IsIn a n p = InSegment value a n p.0 p.1

  abbrev wider : (a n : ℕ) (p : ℕ × ℕ) → IsIn (a + 1) n p → IsIn a (suc n) p
  wider a n p m = (omega arith, omega arith, m.2)

  -- each pair is one of the selectors with their values
  segment_all : (a n : ℕ) → All (IsIn a n) (pairs_between value a n)
  segment_all a zero = All-nil (IsIn a zero)
  segment_all a (suc n) =
      by_value (value a) refl
      (All-weaker (IsIn (a + 1) n) (IsIn a (suc n)) (wider a n) (pairs_between value (a + 1) n) (segment_all (a + 1) n))
    where
      by_value : (o : Option ℕ) → value a ≡ o → All (IsIn a (suc n)) (pairs_between value (a + 1) n)
          → All (IsIn a (suc n)) (pairs_between value a (suc n))
      by_value None e later = rw e later
      by_value (Some v) e later =
          rw e (All-cons (IsIn a (suc n)) (a, v) (pairs_between value (a + 1) n) (omega arith, omega arith, e) later)

  -- and each of them is listed
  segment_contains : (a n sel uv : ℕ) → InSegment value a n sel uv → Contains (pairs_between value a n) (sel, uv)
  segment_contains a zero sel uv m = absurd (omega arith)
  segment_contains a (suc n) sel uv m =
      by_place (cases_eq sel a) (λ h. segment_contains (a + 1) n sel uv (omega arith, omega arith, m.2))
    where
      by_value : (o : Option ℕ) → value a ≡ o → Contains (pairs_between value (a + 1) n) (sel, uv)
          → Contains (pairs_between value a (suc n)) (sel, uv)
      by_value None e later = rw e later
      by_value (Some v) e later = rw e (Contains-append_right ((a, v) ∷ []) (pairs_between value (a + 1) n) (sel, uv) later)

      by_place : (sel ≡ a) ⊎ (sel ≡ a → ⊥)
          → ((sel ≡ a → ⊥) → Contains (pairs_between value (a + 1) n) (sel, uv))
          → Contains (pairs_between value a (suc n)) (sel, uv)
      by_place (inl here) later =
          let e : value a ≡ Some uv = subst (λ s. value s ≡ Some uv) here m.2 in
          rw (e, here) (0, omega arith, refl)
      by_place (inr there) later = by_value (value a) refl (later there)

  abbrev RisesTo : ℕ × ℕ → ℕ × ℕ → Type 0
  RisesTo p q = p.0 < q.0

  -- their selectors rise
  segment_rises : (a n : ℕ) → AllPairs RisesTo (pairs_between value a n)
  segment_rises a zero = λ i j d h k. absurd (omega arith)
  segment_rises a (suc n) = by_value (value a) refl (segment_rises (a + 1) n)
    where
      by_value : (o : Option ℕ) → value a ≡ o → AllPairs RisesTo (pairs_between value (a + 1) n)
          → AllPairs RisesTo (pairs_between value a (suc n))
      by_value None e later = rw e later
      by_value (Some v) e later =
          rw e (AllPairs-cons RisesTo (a, v) (pairs_between value (a + 1) n)
          (All-weaker (IsIn (a + 1) n) (RisesTo (a, v)) (λ p m. omega (arith, m.0))
          (pairs_between value (a + 1) n) (segment_all (a + 1) n))
          later)

value_of-fits : (rs : List LinearRange) (sel uv : ℕ) → All IsFitting rs → HasValue rs sel uv → uv < 2 ^ 32
value_of-fits [] sel uv fitting h = cc
value_of-fits (r ∷ rs) sel uv fitting h =
    by_value (value_in r sel) refl (value_of-fits rs sel uv (All-tail IsFitting r rs fitting))
  where
    by_value : (o : Option ℕ) → value_in r sel ≡ o → (HasValue rs sel uv → uv < 2 ^ 32) → uv < 2 ^ 32
    by_value None e later = later (rw e at h)
    by_value (Some v) e later =
        let same : Some v ≡ Some uv = rw e at h in
        let is : v ≡ uv = cc in
        let high = member_high r sel v (member_from_value_in r sel v e) in
        let fits = (All-head IsFitting r rs fitting).1 in
        omega (arith, high, fits)

module _ (rs : List LinearRange) where
  abbrev Has : ℕ × ℕ → Type 0
  Has p = HasValue rs p.0 p.1

  all_have : All Has (values rs)
  unfolding values
  all_have =
      All-weaker (λ p. InSegment (value_of rs) 0 (selectors_end rs) p.0 p.1) Has (λ p m. m.2)
      (pairs_between (value_of rs) 0 (selectors_end rs)) (segment_all (value_of rs) 0 (selectors_end rs))

  contains_value : (sel uv : ℕ) → HasValue rs sel uv → Contains (values rs) (sel, uv)
  unfolding values
  contains_value sel uv h = segment_contains (value_of rs) 0 (selectors_end rs) sel uv (in_segment rs sel uv h)

  pub lists_values : ListsValues rs
  lists_values sel uv = (λ c. All-contains Has (values rs) (sel, uv) all_have c, contains_value sel uv)

  pub selectors_rise : SelectorsRise rs
  unfolding values
  selectors_rise = segment_rises (value_of rs) 0 (selectors_end rs)

  pub is_bounded : (n : ℕ) → IsSound n rs → selectors_end rs ≤ 65536 → IsBounded rs
  is_bounded n sound few =
      All-weaker Has (λ p. (p.0 < 2 ^ 16) × (p.1 < 2 ^ 32))
      (λ p h. (omega (arith, value_of-below rs p.0 p.1 h), value_of-fits rs p.0 p.1 sound.fitting h))
      (values rs) all_have

  pub picks_high : PicksHigh rs
  picks_high = pairs.picks_high (values rs) selectors_rise

  pub picks_low : PicksLow rs
  picks_low = pairs.picks_low (values rs) selectors_rise
