-- The widest gap between neighbouring values is what its definition computes.
use Rattle.std.proofs.Common.{◌≡◌, ◌≢◌, ℕ, ◌+◌, ◌-◌, ◌<◌, ◌≤◌, true, List, Option, Some, None, ◌⊎◌, inl, inr, refl, ap, subst, arith, ltb, max, filter, length, Contains}
use Rattle.std.specs.Prelude.{All, option_map}
use Rattle.std.specs.List.{filter_map}
use Rattle.std.proofs.lemmas.Bool.{ltb-true, lt-ltb, cases_lt}
use Rattle.std.proofs.lemmas.List.Elements.{All-contains, All-contains_itself, All-weaker}
use Rattle.board.specs.Rail.{least}
use Rattle.board.specs.Fields.{IsLeastAbove}
use Rattle.board.specs.Gaps.{AreNeighbours}
use Rattle.board_checks.specs.Gaps.{gap_above, widest_gap, HasGap, IsWidestGap}
use Rattle.board_checks.proofs.Members.{passed, kept, mapped, mapped_from, max_among, max_above, IsLeastOf, least_is}

-- the values above one
abbrev above : List ℕ → ℕ → List ℕ
above values low = filter (λ high. ltb low high) values

abbrev gap_to : ℕ → Option ℕ → Option ℕ
gap_to low o = option_map (λ high. high - low) o

next_of : (values : List ℕ) (low high : ℕ) → Contains values low → IsLeastOf (above values low) (Some high) → AreNeighbours values low high
next_of values low high has least = record {
  has_low = has;
  has_high = there.0;
  rising = ltb-true low high there.1;
  none_between = All-weaker (Contains values) (λ v. (v ≤ low) ⊎ (high ≤ v)) outside values (All-contains_itself values);
} where
  there : Contains values high × (ltb low high ≡ true)
  there = passed (λ v. ltb low v) values high least.0

  outside : (v : ℕ) → Contains values v → (v ≤ low) ⊎ (high ≤ v)
  outside v among = elim (cases_lt low v) [
    | inl more ↦ inr (All-contains (λ w. high ≤ w) (above values low) v least.1 (kept (λ w. ltb low w) values v among (lt-ltb low v more)))
    | inr less ↦ inl less
  ]

gap_of : (values : List ℕ) (low gap : ℕ) (o : Option ℕ) → Contains values low → IsLeastOf (above values low) o → gap_to low o ≡ Some gap → AreNeighbours values low (low + gap)
gap_of values low gap None has least is = absurd (cc)
gap_of values low gap (Some high) has least is =
    let next : AreNeighbours values low high = next_of values low high has least in
    let far : high - low ≡ gap = cc in
    let end : high ≡ low + gap = omega (arith, next.rising) in
    subst (AreNeighbours values low) end next

of_gap : (values : List ℕ) (low high : ℕ) (o : Option ℕ) → AreNeighbours values low high → IsLeastOf (above values low) o → gap_to low o ≡ Some (high - low)
of_gap values low high None next none =
    let among : Contains (above values low) high = kept (λ v. ltb low v) values high next.has_high (lt-ltb low high next.rising) in
    absurd (omega (arith, among.1, ap length none))
of_gap values low high (Some n) next least =
    let there = passed (λ v. ltb low v) values n least.0 in
    let more : low < n = ltb-true low n there.1 in
    let near : n ≤ high = All-contains (λ v. n ≤ v) (above values low) high least.1 (kept (λ v. ltb low v) values high next.has_high (lt-ltb low high next.rising)) in
    elim (All-contains (λ v. (v ≤ low) ⊎ (high ≤ v)) values n next.none_between there.0) [
      | inl under ↦ absurd (omega arith)
      | inr over ↦ let same : n ≡ high = omega arith in ap (λ v. Some (v - low)) same
    ]

pub widest_gap_is_lem : (values : List ℕ) → IsWidestGap values (widest_gap values)
widest_gap_is_lem values = record { none_wider = none_wider; reached = reached } where
  none_wider : (low high : ℕ) → AreNeighbours values low high → high ≤ low + widest_gap values
  none_wider low high next =
      let gap : gap_above values low ≡ Some (high - low) = of_gap values low high (least (above values low)) next (least_is (above values low)) in
      omega (arith, next.rising, max_above 0 (filter_map (gap_above values) values) (high - low) (mapped (gap_above values) values low (high - low) next.has_low gap))

  reached : widest_gap values ≢ 0 → HasGap values (widest_gap values)
  reached some = elim (max_among 0 (filter_map (gap_above values) values)) [
    | inl zero ↦ absurd (some zero)
    | inr among ↦ let from = mapped_from (gap_above values) values (widest_gap values) among in
        record { low = from.0; neighbours = gap_of values from.0 (widest_gap values) (least (above values from.0)) from.1 (least_is (above values from.0)) from.2 }
  ]

-- and a list has no other
at_most : (values : List ℕ) (a b : ℕ) → IsWidestGap values a → IsWidestGap values b → a ≤ b
at_most values a b first second = elim (cases_lt 0 a) [
  | inl some ↦ let gap : HasGap values a = first.reached (λ zero. absurd (omega arith)) in omega (arith, second.none_wider gap.low (gap.low + a) gap.neighbours)
  | inr none ↦ omega arith
]

pub only_widest : (values : List ℕ) (a : ℕ) → IsWidestGap values a → a ≡ widest_gap values
only_widest values a is = omega (arith, at_most values a (widest_gap values) is (widest_gap_is_lem values), at_most values (widest_gap values) a (widest_gap_is_lem values) is)

-- among the values up to one of them, this is the widest gap
pub record IsWidestUpTo (values : List ℕ) (last gap : ℕ) : Type 0 where
  pub has_last : Contains values last
  pub none_wider : (low high : ℕ) → AreNeighbours values low high → high ≤ last → high ≤ low + gap
  pub reached : gap ≢ 0 → HasGap values gap

pub next_to : (values : List ℕ) (low high : ℕ) → Contains values low → IsLeastAbove values (low + 1) high → AreNeighbours values low high
next_to values low high has next = record {
  has_low = has;
  has_high = next.among;
  rising = omega (arith, next.not_below);
  none_between = All-weaker (λ v. low + 1 ≤ v → high ≤ v) (λ v. (v ≤ low) ⊎ (high ≤ v)) outside values next.no_lesser;
} where
  outside : (v : ℕ) → (low + 1 ≤ v → high ≤ v) → (v ≤ low) ⊎ (high ≤ v)
  outside v far = elim (cases_lt low v) [ inl more ↦ inr (far (omega arith)) | inr less ↦ inl less ]

-- up to the least value there is none
pub first_gap : (values : List ℕ) (least : ℕ) → IsLeastAbove values 0 least → IsWidestUpTo values least 0
first_gap values least is = record {
  has_last = is.among;
  none_wider = λ low high next below.
      let above : least ≤ low = All-contains (λ v. 0 ≤ v → least ≤ v) values low is.no_lesser next.has_low (omega arith) in
      omega (arith, next.rising);
  reached = λ some. absurd (some refl);
}

one_gap : (values : List ℕ) (low high a b : ℕ) → AreNeighbours values low high → AreNeighbours values a b → b ≡ high → a ≡ low
one_gap values low high a b next other same =
    elim (All-contains (λ v. (v ≤ low) ⊎ (high ≤ v)) values a next.none_between other.has_low) [
      | inl under ↦ elim (All-contains (λ v. (v ≤ a) ⊎ (b ≤ v)) values low other.none_between next.has_low) [
        | inl over ↦ omega arith
        | inr past ↦ absurd (omega (arith, next.rising))
      ]
      | inr past ↦ absurd (omega (arith, other.rising))
    ]

wider_by : (values : List ℕ) (low high gap a b : ℕ) → IsWidestUpTo values low gap → AreNeighbours values low high → AreNeighbours values a b → b ≤ high → b ≤ a + max gap (high - low)
wider_by values low high gap a b up_to next other below =
    elim (All-contains (λ v. (v ≤ low) ⊎ (high ≤ v)) values b next.none_between other.has_high) [
      | inl before ↦ omega (arith, up_to.none_wider a b other before)
      | inr last ↦ let same : b ≡ high = omega arith in omega (arith, next.rising, one_gap values low high a b next other same)
    ]

-- from one value to the next the widest gap so far is the greater one
pub next_gap : (values : List ℕ) (low high gap : ℕ) → IsWidestUpTo values low gap → IsLeastAbove values (low + 1) high → IsWidestUpTo values high (max gap (high - low))
next_gap values low high gap up_to is = record {
  has_last = is.among;
  none_wider = λ a b other below. wider_by values low high gap a b up_to (next_to values low high up_to.has_last is) other below;
  reached = λ some. elim (cases_lt gap (high - low)) [
    | inl more ↦ let e : high - low ≡ max gap (high - low) = omega arith in
        let end : high ≡ low + (high - low) = omega arith in
        subst (HasGap values) e (record { low = low; neighbours = subst (AreNeighbours values low) end (next_to values low high up_to.has_last is) })
    | inr less ↦ let e : gap ≡ max gap (high - low) = omega arith in subst (HasGap values) e (up_to.reached (λ none. some (omega arith)))
  ];
}

-- past the last value it is the widest of all
pub last_gap : (values : List ℕ) (last gap : ℕ) → IsWidestUpTo values last gap → All (λ v. v ≤ last) values → gap ≡ widest_gap values
last_gap values last gap up_to all = only_widest values gap (record {
  none_wider = λ low high next. up_to.none_wider low high next (All-contains (λ v. v ≤ last) values high all next.has_high);
  reached = up_to.reached;
})

-- no values, no gap
pub no_gap : (values : List ℕ) → All (λ v. v < 0) values → 0 ≡ widest_gap values
no_gap values none = only_widest values 0 (record {
  none_wider = λ low high next. absurd (omega (arith, All-contains (λ v. v < 0) values low none next.has_low));
  reached = λ some. absurd (some refl);
})
