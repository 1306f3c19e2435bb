-- Sets that grow until they hold all that goes with a rail.
use Rattle.std.proofs.Common.{◌≡◌, ℕ, zero, suc, ◌+◌, ◌<◌, ◌≤◌, Bool, true, false, cond, ◌||◌, List, [], ◌∷◌, ◌⊎◌, inl, inr, refl, sym, ap, subst, arith, length, filter, eq-eqb, Contains, AllPairs}
use Rattle.std.specs.List.{list_any, range_with_len}
use Rattle.std.proofs.lemmas.Bool.{eqb-true, or_cases, or_left, or_right, cases_eq}
use Rattle.std.proofs.lemmas.List.FromFn.{length-range_with_len, get_or-range_with_len}
use Rattle.std.proofs.lemmas.List.Kept.{AllPairs-cons, AllPairs-filter}
use Rattle.board_graph.specs.declared.graph.Graph.{Graph}
use Rattle.board_graph.specs.Graph.{count_of}
use Rattle.board_graph.specs.Order.{is_taken}
use Rattle.board_graph.specs.Sets.{rails_of, grown, grown_times, IsLeastWith}
use Rattle.board_graph.proofs.Members.{taken_at}

-- the test and the fact
pub taken_from : (set : List ℕ) (i : ℕ) → Contains set i → is_taken set i ≡ true
taken_from set i has = taken_at i set has

pub from_taken : (set : List ℕ) (i : ℕ) → is_taken set i ≡ true → Contains set i
from_taken [] i is = absurd (cc)
from_taken (x ∷ set) i is = elim (or_cases _ _ is) [
  | inl here ↦ (0, omega arith, sym (eqb-true i x here))
  | inr there ↦ let rest = from_taken set i there in (suc rest.0, omega (arith, rest.1), rest.2)
]

pub any_at : (test : ℕ → Bool) (set : List ℕ) (j : ℕ) → is_taken set j ≡ true → test j ≡ true → list_any test set ≡ true
any_at test [] j taken passes = absurd (cc)
any_at test (x ∷ set) j taken passes = elim (or_cases _ _ taken) [
  | inl here ↦ or_left _ _ (subst (λ y. test y ≡ true) (eqb-true j x here) passes)
  | inr there ↦ or_right _ _ (any_at test set j there passes)
]

pub any_from : (test : ℕ → Bool) (set : List ℕ) → list_any test set ≡ true → (j : ℕ) × (is_taken set j ≡ true) × (test j ≡ true)
any_from test [] is = absurd (cc)
any_from test (x ∷ set) is = elim (or_cases _ _ is) [
  | inl here ↦ (x, or_left _ _ (eq-eqb x x refl), here)
  | inr there ↦ let rest = any_from test set there in (rest.0, or_right _ _ rest.1, rest.2)
]

-- what a filter keeps
kept_by : (x i : ℕ) (set : List ℕ) (t : Bool) → is_taken set i ≡ true → is_taken (cond t (x ∷ set) set) i ≡ true
kept_by x i set true taken = or_right _ _ taken
kept_by x i set false taken = taken

pub kept : (test : ℕ → Bool) (set : List ℕ) (i : ℕ) → is_taken set i ≡ true → test i ≡ true → is_taken (filter test set) i ≡ true
kept test [] i taken passes = absurd (cc)
kept test (x ∷ set) i taken passes = elim (or_cases _ _ taken) [
  | inl here ↦ let e : test x ≡ true = subst (λ y. test y ≡ true) (eqb-true i x here) passes in rw e (or_left _ _ here)
  | inr there ↦ kept_by x i (filter test set) (test x) (kept test set i there passes)
]

passed_by : (test : ℕ → Bool) (x i : ℕ) (set others : List ℕ) (t : Bool) → test x ≡ t → (is_taken others i ≡ true → (is_taken set i ≡ true) × (test i ≡ true))
    → is_taken (cond t (x ∷ others) others) i ≡ true → (is_taken (x ∷ set) i ≡ true) × (test i ≡ true)
passed_by test x i set others true is rest taken = elim (or_cases _ _ taken) [
  | inl here ↦ (or_left _ _ here, subst (λ y. test y ≡ true) (sym (eqb-true i x here)) is)
  | inr there ↦ let both = rest there in (or_right _ _ both.0, both.1)
]
passed_by test x i set others false is rest taken = let both = rest taken in (or_right _ _ both.0, both.1)

pub passed : (test : ℕ → Bool) (set : List ℕ) (i : ℕ) → is_taken (filter test set) i ≡ true → (is_taken set i ≡ true) × (test i ≡ true)
passed test [] i taken = absurd (cc)
passed test (x ∷ set) i taken = passed_by test x i set (filter test set) (test x) refl (passed test set i) taken

-- the rails are the numbers below their count, and rise
ranged : (a n i : ℕ) → a ≤ i → i < a + n → is_taken (range_with_len a n) i ≡ true
ranged a zero i from below = absurd (omega arith)
ranged a (suc n) i from below = elim (cases_eq i a) [
  | inl here ↦ or_left _ _ (eq-eqb i a here)
  | inr there ↦ or_right _ _ (ranged (a + 1) n i (omega (arith, there)) (omega arith))
]

pub is_rail : (graph : Graph) (i : ℕ) → i < count_of graph → is_taken (rails_of graph) i ≡ true
is_rail graph i below = ranged 0 (count_of graph) i (omega arith) (omega arith)

is_ranged : (a n i : ℕ) → is_taken (range_with_len a n) i ≡ true → i < a + n
is_ranged a zero i taken = absurd (cc)
is_ranged a (suc n) i taken = elim (or_cases _ _ taken) [
  | inl here ↦ omega (arith, eqb-true i a here)
  | inr there ↦ omega (arith, is_ranged (a + 1) n i there)
]

pub rail_is : (graph : Graph) (i : ℕ) → is_taken (rails_of graph) i ≡ true → i < count_of graph
rail_is graph i taken = omega (arith, is_ranged 0 (count_of graph) i taken)

pub rising_range : (a n : ℕ) → AllPairs (λ i j. i < j) (range_with_len a n)
rising_range a zero = λ i j d less within. absurd (omega arith)
rising_range a (suc n) =
    AllPairs-cons (λ i j. i < j) a (range_with_len (a + 1) n)
    (λ k d within. omega (arith, get_or-range_with_len (a + 1) n k d (omega (arith, length-range_with_len (a + 1) n))))
    (rising_range (a + 1) n)

-- of two filters the wider one keeps as much or more
abbrev pub Widens : List ℕ → List ℕ → Type 0
Widens first second = (second ≡ first) ⊎ (length first < length second)

widens_by : (x : ℕ) (first second : List ℕ) (s t : Bool) → (s ≡ true → t ≡ true) → Widens first second → Widens (cond s (x ∷ first) first) (cond t (x ∷ second) second)
widens_by x first second true true wider (inl same) = inl (ap (λ set. x ∷ set) same)
widens_by x first second true true wider (inr more) = inr (omega arith)
widens_by x first second true false wider rest = absurd (cc (wider refl))
widens_by x first second false true wider (inl same) = let e : length second ≡ length first = ap length same in inr (omega arith)
widens_by x first second false true wider (inr more) = inr (omega arith)
widens_by x first second false false wider rest = rest

pub widens : (p q : ℕ → Bool) → ((i : ℕ) → p i ≡ true → q i ≡ true) → (set : List ℕ) → Widens (filter p set) (filter q set)
widens p q wider [] = inl refl
widens p q wider (x ∷ set) = widens_by x (filter p set) (filter q set) (p x) (q x) (wider x) (widens p q wider set)

pub no_longer : (p : ℕ → Bool) (set : List ℕ) → length (filter p set) ≤ length set
no_longer p [] = omega arith
no_longer p (x ∷ set) = by (p x) (no_longer p set) where
  by : (t : Bool) → length (filter p set) ≤ length set → length (cond t (x ∷ filter p set) (filter p set)) ≤ suc (length set)
  by true rest = omega arith
  by false rest = omega arith

-- a rail is taken in where it was there, or one that was there takes it in
abbrev pub joins : (ℕ → ℕ → Bool) → List ℕ → ℕ → Bool
joins takes set i = is_taken set i || list_any (takes i) set

joins_wider : (takes : ℕ → ℕ → Bool) (first second : List ℕ) → ((i : ℕ) → is_taken first i ≡ true → is_taken second i ≡ true)
    → (i : ℕ) → joins takes first i ≡ true → joins takes second i ≡ true
joins_wider takes first second wider i is = elim (or_cases _ _ is) [
  | inl here ↦ or_left _ _ (wider i here)
  | inr there ↦ let by = any_from (takes i) first there in or_right _ _ (any_at (takes i) second by.0 (wider by.0 by.1) by.2)
]

longer_than : (set : List ℕ) (i : ℕ) → is_taken set i ≡ true → 0 < length set
longer_than [] i taken = absurd (cc)
longer_than (x ∷ set) i taken = omega arith

-- how a set grows from a rail of the graph
module _ (graph : Graph) (takes : ℕ → ℕ → Bool) (r : ℕ) (below : r < count_of graph) where
  abbrev stage : ℕ → List ℕ
  stage n = grown_times graph takes (r ∷ []) n

  stays : (n i : ℕ) → is_taken (stage n) i ≡ true → is_taken (stage (suc n)) i ≡ true
  stays zero i taken = elim (or_cases _ _ taken) [
    | inl here ↦ let same : i ≡ r = eqb-true i r here in kept (joins takes (r ∷ [])) (rails_of graph) i (is_rail graph i (omega arith)) (or_left _ _ taken)
    | inr there ↦ absurd (cc)
  ]
  stays (suc n) i taken =
      let both = passed (joins takes (stage n)) (rails_of graph) i taken in
      kept (joins takes (stage (suc n))) (rails_of graph) i both.0 (joins_wider takes (stage n) (stage (suc n)) (stays n) i both.1)

  pub has_first : (n : ℕ) → is_taken (stage n) r ≡ true
  has_first zero = or_left _ _ (eq-eqb r r refl)
  has_first (suc n) = stays n r (has_first n)

  -- each time it is longer, or it grows no more
  longer : (n : ℕ) → (stage (suc (suc n)) ≡ stage (suc n)) ⊎ (suc (suc n) ≤ length (stage (suc (suc n))))
  longer zero = elim (widens (joins takes (stage 0)) (joins takes (stage 1)) (joins_wider takes (stage 0) (stage 1) (stays 0)) (rails_of graph)) [
    | inl same ↦ inl same
    | inr more ↦ inr (omega (arith, longer_than (stage 1) r (has_first 1)))
  ]
  longer (suc n) = elim (longer n) [
    | inl settled ↦ inl (ap (grown graph takes) settled)
    | inr long ↦ elim (widens (joins takes (stage (suc n))) (joins takes (stage (suc (suc n)))) (joins_wider takes (stage (suc n)) (stage (suc (suc n))) (stays (suc n))) (rails_of graph)) [
      | inl same ↦ inl same
      | inr more ↦ inr (omega arith)
    ]
  ]

  settled_at : (n : ℕ) → count_of graph ≡ suc n → stage (suc (suc n)) ≡ stage (suc n)
  settled_at n count = elim (longer n) [
    | inl settled ↦ settled
    | inr long ↦ absurd (omega (arith, no_longer (joins takes (stage (suc n))) (rails_of graph), length-range_with_len 0 (count_of graph)))
  ]

  -- after as many times as there are rails it grows no more
  settled : (n : ℕ) → count_of graph ≡ n → grown graph takes (stage n) ≡ stage n
  settled zero count = absurd (omega arith)
  settled (suc n) count = settled_at n count

  pub closed : (i j : ℕ) → i < count_of graph → takes i j ≡ true → is_taken (stage (count_of graph)) j ≡ true → is_taken (stage (count_of graph)) i ≡ true
  closed i j rail takes_in taken =
      subst (λ set. is_taken set i ≡ true) (settled (count_of graph) refl)
      (kept (joins takes (stage (count_of graph))) (rails_of graph) i (is_rail graph i rail) (or_right _ _ (any_at (takes i) (stage (count_of graph)) j taken takes_in)))

  -- what holds of the rail, and of what takes in a rail of which it holds, holds of each
  pub ever : (Holds : ℕ → Type 0) → Holds r → ((i j : ℕ) → takes i j ≡ true → Holds j → Holds i) → (n i : ℕ) → is_taken (stage n) i ≡ true → Holds i
  ever Holds first next zero i taken = elim (or_cases _ _ taken) [
    | inl here ↦ subst Holds (sym (eqb-true i r here)) first
    | inr there ↦ absurd (cc)
  ]
  ever Holds first next (suc n) i taken = elim (or_cases _ _ (passed (joins takes (stage n)) (rails_of graph) i taken).1) [
    | inl here ↦ ever Holds first next n i here
    | inr there ↦ let by = any_from (takes i) (stage n) there in next i by.0 by.2 (ever Holds first next n by.0 by.1)
  ]

  rises : (n : ℕ) → AllPairs (λ i j. i < j) (stage n)
  rises zero = λ i j d less within. absurd (omega arith)
  rises (suc n) = AllPairs-filter (λ i j. i < j) (joins takes (stage n)) (rails_of graph) (rising_range 0 (count_of graph))

  pub least_with : (Such : List ℕ → Type 0)
      → (((i j : ℕ) → i < count_of graph → takes i j ≡ true → Contains (stage (count_of graph)) j → Contains (stage (count_of graph)) i) → Such (stage (count_of graph)))
      → ((other : List ℕ) → Such other → (i j : ℕ) → takes i j ≡ true → Contains other j → Contains other i)
      → IsLeastWith Such r (stage (count_of graph))
  least_with Such makes gives = record {
    has = from_taken _ r (has_first (count_of graph));
    such = makes (λ i j rail takes_in has. from_taken _ i (closed i j rail takes_in (taken_from _ j has)));
    least = λ other such has i in_set. ever (Contains other) has (gives other such) (count_of graph) i (taken_from _ i in_set);
    rising = rises (count_of graph);
  }
