-- How many selectors of a table have a value.
use Rattle.std.proofs.Common.{◌≡◌, ℕ, zero, suc, ◌+◌, ◌-◌, ◌^◌, ◌<◌, ◌≤◌, max, List, [], ◌∷◌, ◌++◌, Option, None, Some, length, get_or, take, refl, sym, ◌∙◌, ap, ◌⊎◌, inl, inr, arith}
use Rattle.std.proofs.lemmas.Bool.{le-leb, lt-leb, cases_lt}
use Rattle.std.proofs.lemmas.List.{take_more}
use Rattle.std.specs.Option.{option_or}
use Rattle.linear_range.specs.declared.linear_range.LinearRange.{LinearRange}
use Rattle.linear_range.specs.LinearRange.{IsSound}
use Rattle.linear_range.specs.Values.{value_in, value_of, selectors_end, values}
use Rattle.linear_range.proofs.Picks.{pairs_between}
use Rattle.linear_range.proofs.Tables.{IsApart, value_of-below, value_of-append, value_of-single, value_of-apart, member_from_value_in}
use Rattle.linear_range.proofs.Steps.{apart_from_earlier}

module _ (value : ℕ → Option ℕ) where
  -- where nothing has a value, nothing is counted
  length-none : (a n : ℕ) → ((sel : ℕ) → a ≤ sel → value sel ≡ None) → length (pairs_between value a n) ≡ 0
  length-none a zero past = refl
  length-none a (suc n) past = rw (past a (omega arith)) (length-none (a + 1) n (λ sel h. past sel (omega arith)))

  -- selectors past the last with a value add nothing
  length-past : (a m n : ℕ) → m ≤ n → ((sel : ℕ) → a + m ≤ sel → value sel ≡ None)
      → length (pairs_between value a n) ≡ length (pairs_between value a m)
  length-past a zero n h past = length-none a n (λ sel k. past sel (omega arith))
  length-past a (suc m) zero h past = absurd (omega arith)
  length-past a (suc m) (suc n) h past =
      by_value (value a) refl (length-past (a + 1) m n (omega arith) (λ sel k. past sel (omega arith)))
    where
      by_value : (o : Option ℕ) → value a ≡ o
          → length (pairs_between value (a + 1) n) ≡ length (pairs_between value (a + 1) m)
          → length (pairs_between value a (suc n)) ≡ length (pairs_between value a (suc m))
      by_value None e same = rw e same
      by_value (Some v) e same = rw e (ap (λ k. suc k) same)

  -- no selector is counted twice
  length-pairs-le : (a n : ℕ) → length (pairs_between value a n) ≤ n
  length-pairs-le a zero = omega arith
  length-pairs-le a (suc n) = by_value (value a) refl (length-pairs-le (a + 1) n)
    where
      by_value : (o : Option ℕ) → value a ≡ o → length (pairs_between value (a + 1) n) ≤ n
          → length (pairs_between value a (suc n)) ≤ suc n
      by_value None e less = rw e (omega arith)
      by_value (Some v) e less = rw e (omega arith)

-- values that stand at different selectors are counted together
module _ (left right both : ℕ → Option ℕ) (is : (sel : ℕ) → both sel ≡ option_or (left sel) (right sel))
    (apart : (sel uv : ℕ) → right sel ≡ Some uv → left sel ≡ None) where
  length-both : (a n : ℕ) → length (pairs_between both a n)
      ≡ length (pairs_between left a n) + length (pairs_between right a n)
  length-both a zero = refl
  length-both a (suc n) = by_values (left a) (right a) refl refl (length-both (a + 1) n)
    where
      by_values : (o o' : Option ℕ) → left a ≡ o → right a ≡ o'
          → length (pairs_between both (a + 1) n)
          ≡ length (pairs_between left (a + 1) n) + length (pairs_between right (a + 1) n)
          → length (pairs_between both a (suc n))
          ≡ length (pairs_between left a (suc n)) + length (pairs_between right a (suc n))
      by_values None None e f sums = rw (is a, e, f) sums
      by_values None (Some w) e f sums = rw (is a, e, f) (omega arith)
      by_values (Some v) None e f sums = rw (is a, e, f) (omega arith)
      by_values (Some v) (Some w) e f sums = let none : Some v ≡ None = sym e ∙ apart a w f in cc

-- the selectors of one range
length-range : (r : LinearRange) (a n : ℕ) → a + n ≤ r.max_sel + 1
    → length (pairs_between (value_in r) a n) ≡ a + n - max a r.min_sel
length-range r a zero h = omega arith
length-range r a (suc n) h = by_place (cases_lt a r.min_sel) (length-range r (a + 1) n (omega arith))
  where
    by_place : (a < r.min_sel) ⊎ (r.min_sel ≤ a)
        → length (pairs_between (value_in r) (a + 1) n) ≡ a + 1 + n - max (a + 1) r.min_sel
        → length (pairs_between (value_in r) a (suc n)) ≡ a + suc n - max a r.min_sel
    by_place (inl before) same = rw (lt-leb r.min_sel a before) (omega arith)
    by_place (inr within) same =
        let to : a ≤ r.max_sel = omega arith in
        rw (le-leb r.min_sel a within, le-leb a r.max_sel to) (omega arith)

value_of-past : (rs : List LinearRange) (sel : ℕ) → selectors_end rs ≤ sel → value_of rs sel ≡ None
value_of-past rs sel h = by_value (value_of rs sel) refl
  where
    by_value : (o : Option ℕ) → value_of rs sel ≡ o → value_of rs sel ≡ None
    by_value None e = e
    by_value (Some v) e = absurd (omega (arith, value_of-below rs sel v e))

value_in-past : (r : LinearRange) (sel : ℕ) → r.max_sel + 1 ≤ sel → value_in r sel ≡ None
value_in-past r sel h = by_value (value_in r sel) refl
  where
    by_value : (o : Option ℕ) → value_in r sel ≡ o → value_in r sel ≡ None
    by_value None e = e
    by_value (Some v) e = absurd (omega (arith, (member_from_value_in r sel v e).to))

pub selectors_end-append : (rs : List LinearRange) (r : LinearRange)
    → selectors_end (rs ++ r ∷ []) ≡ max (selectors_end rs) (r.max_sel + 1)
selectors_end-append [] r = omega arith
selectors_end-append (s ∷ rs) r = rw (selectors_end-append rs r) (omega arith)

-- one range adds its selectors
length-values-append : (rs : List LinearRange) (r : LinearRange) → IsApart r rs → r.min_sel ≤ r.max_sel
    → length (values (rs ++ r ∷ [])) ≡ length (values rs) + (r.max_sel - r.min_sel + 1)
unfolding values
length-values-append rs r apart rises =
    length-both (value_of rs) (value_in r) (value_of (rs ++ r ∷ []))
    (λ sel. value_of-append rs r sel ∙ ap (λ o. option_or (value_of rs sel) o) (value_of-single r sel))
    (λ sel uv h. value_of-apart rs r sel uv apart h) 0 end
    ∙ (rw (earlier, own) refl)
  where
    end : ℕ
    end = selectors_end (rs ++ r ∷ [])

    earlier : length (pairs_between (value_of rs) 0 (selectors_end (rs ++ r ∷ [])))
        ≡ length (pairs_between (value_of rs) 0 (selectors_end rs))
    earlier =
        length-past (value_of rs) 0 (selectors_end rs) (selectors_end (rs ++ r ∷ []))
        (omega (arith, selectors_end-append rs r)) (λ sel h. value_of-past rs sel (omega arith))

    own : length (pairs_between (value_in r) 0 (selectors_end (rs ++ r ∷ []))) ≡ r.max_sel - r.min_sel + 1
    own =
        length-past (value_in r) 0 (r.max_sel + 1) (selectors_end (rs ++ r ∷ []))
        (omega (arith, selectors_end-append rs r)) (λ sel h. value_in-past r sel (omega arith))
        ∙ length-range r 0 (r.max_sel + 1) (omega arith)
        ∙ omega arith

pub length-values-le : (rs : List LinearRange) → length (values rs) ≤ selectors_end rs
unfolding values
length-values-le rs = length-pairs-le (value_of rs) 0 (selectors_end rs)

-- the selectors of the first i ranges are counted, and they are below 65536
pub record IsCounted (rs : List LinearRange) (i count : ℕ) : Type 0 where
  pub counted : count ≡ length (values (take i rs))
  pub few : selectors_end (take i rs) ≤ 65536

-- one more range of a table
module _ (n : ℕ) (rs : List LinearRange) (i count k : ℕ) (d : LinearRange) (sound : IsSound n rs) (h : i < length rs)
    (before : IsCounted rs i count) (own : k ≡ (get_or rs i d).max_sel - (get_or rs i d).min_sel + 1)
    (last : (get_or rs i d).max_sel < 2 ^ 16) where
  more : length (values (take (i + 1) rs))
      ≡ length (values (take i rs)) + ((get_or rs i d).max_sel - (get_or rs i d).min_sel + 1)
  more = rw (take_more rs i d h)
      (length-values-append (take i rs) (get_or rs i d) (apart_from_earlier n rs i d sound h) (sound.fitting i d h).0)

  end_more : selectors_end (take (i + 1) rs)
      ≡ max (selectors_end (take i rs)) ((get_or rs i d).max_sel + 1)
  end_more = rw (take_more rs i d h) (selectors_end-append (take i rs) (get_or rs i d))

  pub count_more : IsCounted rs (i + 1) (count + k)
  count_more = record {
    counted = omega (arith, more, before.counted);
    few = omega (arith, end_more, before.few);
  }

  pub count_fits : count + k ≤ 65536
  count_fits = omega (arith, count_more.counted, count_more.few, length-values-le (take (i + 1) rs))

pub length-values-nil : 0 ≡ length (values [])
unfolding values
length-values-nil = refl
