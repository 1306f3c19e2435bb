-- The net of the blocks: which leaders lead on to which.
use Rattle.std.proofs.Common.{◌≡◌, ℕ, zero, suc, ◌<◌, ◌&&◌, ◌⊎◌, inl, inr, Bool, true, false, not, cond, List, [], ◌∷◌, Option, Some, None, length, get_or, map, filter, add-one, refl, sym, ap, ◌∙◌, subst, arith, eq-eqb, eqb-true, nat_eq, Contains}
use Rattle.std.specs.Option.{option_map, option_to_list}
use Rattle.std.proofs.lemmas.Bool.{cases_lt, or_cases, or_left, or_right}
use Rattle.std.proofs.lemmas.List.{get_or_past}
use Rattle.std.proofs.lemmas.List.Elements.{Contains-append_left, Contains-append_right, Contains-append_cases, Contains-get_or}
use Rattle.board_graph.specs.declared.graph.Graph.{Graph}
use Rattle.board_graph.specs.Graph.{count_of, supply_at, Supplies, IsGraph}
use Rattle.board_graph.specs.Order.{is_taken}
use Rattle.board_graph.specs.Sets.{is_linked_at}
use Rattle.board_graph.specs.Inside.Net.{next_of, StepsTo}
use Rattle.board_graph.specs.Inside.Lists.{listed, turned, AreLists, AreBelow}
use Rattle.board_graph.specs.Inside.Blocks.{AreLeaders, AreRails, FeedsLeader, feeder_of, feed_at, feeds_of}
use Rattle.board_graph.proofs.Growth.{taken_from, from_taken}
use Rattle.board_graph.proofs.SetLaws.{supply_rail, supplied_rail}
use Rattle.board_graph.proofs.BlockLemmas.{feeds_more}

abbrev Pairs : Type 0
Pairs = List (ℕ × ℕ)

-- the pair is among them
abbrev pub HasPair : List (ℕ × ℕ) → ℕ → ℕ → Type 0
HasPair pairs a b = Contains {X = ℕ × ℕ} pairs (a, b)

pair_is : (pair : ℕ × ℕ) (a b : ℕ) → pair.0 ≡ a → pair.1 ≡ b → pair ≡ (a, b)
pair_is pair a b first second =
    let f : ℕ → ℕ × ℕ = λ x. (x, pair.1) in
    let g : ℕ → ℕ × ℕ = λ y. (a, y) in
    ap f first ∙ ap g second

-- a pair more at the front
pub later_pair : (pair one : ℕ × ℕ) (pairs : Pairs) → Contains pairs one → Contains (pair ∷ pairs) one
later_pair pair one pairs has = (suc has.0, omega (arith, has.1), has.2)

pub pair_cases : (pair one : ℕ × ℕ) (pairs : Pairs) → Contains (pair ∷ pairs) one → (pair ≡ one) ⊎ Contains pairs one
pair_cases pair one pairs has = by has.0 has.1 has.2 where
  by : (k : ℕ) → k < suc (length pairs) → get_or (pair ∷ pairs) k one ≡ one → (pair ≡ one) ⊎ Contains pairs one
  by zero within is = inl is
  by (suc k) within is = inr (k, omega arith, is)

-- a list has the second numbers of its pairs
pub listed_pair : (pairs : Pairs) (a b : ℕ) → is_taken (listed pairs a) b ≡ true → HasPair pairs a b
listed_pair [] a b taken = absurd (cc)
listed_pair (pair ∷ pairs) a b taken = by (listed_pair pairs a b) (nat_eq pair.0 a) refl taken where
  by : (is_taken (listed pairs a) b ≡ true → HasPair pairs a b) → (here : Bool) → nat_eq pair.0 a ≡ here
      → is_taken (map (λ p. p.1) (cond here (pair ∷ filter (λ p. nat_eq p.0 a) pairs) (filter (λ p. nat_eq p.0 a) pairs))) b ≡ true → HasPair (pair ∷ pairs) a b
  by rest true here taken = elim (or_cases _ _ taken) [
    | inl this ↦ (0, omega arith, pair_is pair a b (eqb-true pair.0 a here) (sym (eqb-true b pair.1 this)))
    | inr that ↦ later_pair pair (a, b) pairs (rest that)
  ]
  by rest false other taken = later_pair pair (a, b) pairs (rest taken)

pub pair_listed : (pairs : Pairs) (a b : ℕ) → HasPair pairs a b → is_taken (listed pairs a) b ≡ true
pair_listed [] a b has = absurd (omega (arith, has.1))
pair_listed (pair ∷ pairs) a b has = elim (pair_cases pair (a, b) pairs has) [
  | inl same ↦
      let first : nat_eq pair.0 a ≡ true = eq-eqb pair.0 a (ap (λ p. p.0) same) in
      let second : nat_eq b pair.1 ≡ true = eq-eqb b pair.1 (sym (ap (λ p. p.1) same)) in
      rw first (or_left _ _ second)
  | inr later ↦ by (nat_eq pair.0 a) (pair_listed pairs a b later)
] where
  by : (here : Bool) → is_taken (listed pairs a) b ≡ true → is_taken (map (λ p. p.1) (cond here (pair ∷ filter (λ p. nat_eq p.0 a) pairs) (filter (λ p. nat_eq p.0 a) pairs))) b ≡ true
  by true taken = or_right _ _ taken
  by false taken = taken

pub step_pair : (count : ℕ) (pairs : Pairs) (lists : List (List ℕ)) (a b : ℕ) → AreLists count pairs lists → StepsTo lists a b → (a < count) × HasPair pairs a b
step_pair count pairs lists a b are step = elim (cases_lt a count) [
  | inl below ↦ (below, listed_pair pairs a b (taken_from (listed pairs a) b (subst (λ steps. Contains steps b) (are.at a below) step)))
  | inr past ↦ let none : next_of lists a ≡ [] = get_or_past lists a [] (omega (arith, are.size)) in
      let within : step.0 < length {A = ℕ} [] = subst (λ steps. step.0 < length steps) none step.1 in absurd (omega (arith, within))
]

pub pair_step : (count : ℕ) (pairs : Pairs) (lists : List (List ℕ)) (a b : ℕ) → AreLists count pairs lists → a < count → HasPair pairs a b → StepsTo lists a b
pair_step count pairs lists a b are below has = subst (λ steps. Contains steps b) (sym (are.at a below)) (from_taken (listed pairs a) b (pair_listed pairs a b has))

-- pairs the other way round
pub turn_pair : (pairs : Pairs) (a b : ℕ) → HasPair pairs a b → HasPair (turned pairs) b a
turn_pair [] a b has = absurd (omega (arith, has.1))
turn_pair (pair ∷ pairs) a b has = elim (pair_cases pair (a, b) pairs has) [
  | inl same ↦ (0, omega arith, cc (same))
  | inr later ↦ later_pair (pair.1, pair.0) (b, a) (turned pairs) (turn_pair pairs a b later)
]

pub turned_pair : (pairs : Pairs) (a b : ℕ) → HasPair (turned pairs) a b → HasPair pairs b a
turned_pair [] a b has = absurd (omega (arith, has.1))
turned_pair (pair ∷ pairs) a b has = elim (pair_cases (pair.1, pair.0) (a, b) (turned pairs) has) [
  | inl same ↦
      (0, omega arith, pair_is pair b a (ap (λ p. p.1) same) (ap (λ p. p.0) same))
  | inr later ↦ later_pair pair (b, a) pairs (turned_pair pairs a b later)
]

-- what feeds a rail is a rail that supplies it
pub feeder_supplies : (graph : Graph) (only_linked : Bool) (upper lower : ℕ) → feeder_of graph only_linked lower ≡ Some upper → Supplies graph upper lower
feeder_supplies graph only_linked upper lower feeds = by (only_linked && not (is_linked_at graph lower)) feeds where
  by : (b : Bool) → cond b None (supply_at graph lower) ≡ Some upper → Supplies graph upper lower
  by true never = absurd (cc)
  by false is = is

-- the pairs of feeds
pub feed_pair : (graph : Graph) (leaders : List ℕ) (only_linked : Bool) (n upper lower : ℕ) → lower < n → feeder_of graph only_linked lower ≡ Some upper
    → HasPair (feeds_of graph leaders only_linked n) (get_or leaders upper 0) (get_or leaders lower 0)
feed_pair graph leaders only_linked zero upper lower below feeds = absurd (omega arith)
feed_pair graph leaders only_linked (suc n) upper lower below feeds =
    subst (λ m. HasPair (feeds_of graph leaders only_linked m) (get_or leaders upper 0) (get_or leaders lower 0)) (add-one n)
    (subst (λ pairs. HasPair pairs (get_or leaders upper 0) (get_or leaders lower 0)) (sym (feeds_more graph leaders only_linked n))
    (elim (cases_lt lower n) [
      | inl less ↦ Contains-append_left {X = ℕ × ℕ} (feeds_of graph leaders only_linked n) (feed_at graph leaders only_linked n) (get_or leaders upper 0, get_or leaders lower 0) (feed_pair graph leaders only_linked n upper lower less feeds)
      | inr more ↦
          let same : lower ≡ n = omega arith in
          let here : HasPair (feed_at graph leaders only_linked lower) (get_or leaders upper 0) (get_or leaders lower 0) =
          subst (λ there. HasPair (option_to_list (option_map (λ u. (get_or leaders u 0, get_or leaders lower 0)) there)) (get_or leaders upper 0) (get_or leaders lower 0)) (sym feeds) (0, omega arith, refl) in
          Contains-append_right {X = ℕ × ℕ} (feeds_of graph leaders only_linked n) (feed_at graph leaders only_linked n) (get_or leaders upper 0, get_or leaders lower 0)
          (subst (λ k. HasPair (feed_at graph leaders only_linked k) (get_or leaders upper 0) (get_or leaders lower 0)) same here)
    ]))

feed_here : (graph : Graph) (leaders : List ℕ) (only_linked : Bool) (lower a b : ℕ) → HasPair (feed_at graph leaders only_linked lower) a b → FeedsLeader graph leaders only_linked a b
feed_here graph leaders only_linked lower a b has = by (feeder_of graph only_linked lower) refl has where
  by : (there : Option ℕ) → feeder_of graph only_linked lower ≡ there → HasPair (option_to_list (option_map (λ u. (get_or leaders u 0, get_or leaders lower 0)) there)) a b → FeedsLeader graph leaders only_linked a b
  by None none has = absurd (omega (arith, has.1))
  by (Some upper) feeds has = elim (pair_cases (get_or leaders upper 0, get_or leaders lower 0) (a, b) [] has) [
    | inl same ↦ record { upper = upper; lower = lower; feeds = feeds; leads_upper = ap (λ p. p.0) same; leads_lower = ap (λ p. p.1) same }
    | inr never ↦ absurd (omega (arith, never.1))
  ]

pub pair_feeds : (graph : Graph) (leaders : List ℕ) (only_linked : Bool) (n a b : ℕ) → HasPair (feeds_of graph leaders only_linked n) a b → FeedsLeader graph leaders only_linked a b
pair_feeds graph leaders only_linked zero a b has = absurd (omega (arith, has.1))
pair_feeds graph leaders only_linked (suc n) a b has =
    elim (Contains-append_cases {X = ℕ × ℕ} (feeds_of graph leaders only_linked n) (feed_at graph leaders only_linked n) (a, b)
    (subst (λ pairs. HasPair pairs a b) (feeds_more graph leaders only_linked n) (subst (λ m. HasPair (feeds_of graph leaders only_linked m) a b) (sym (add-one n)) has))) [
      | inl before ↦ pair_feeds graph leaders only_linked n a b before
      | inr here ↦ feed_here graph leaders only_linked n a b here
    ]

-- a leader's number is a rail's
pub leader_rail : (graph : Graph) (leaders : List ℕ) (r : ℕ) → AreLeaders graph.group leaders → r < count_of graph → get_or leaders r 0 < count_of graph
leader_rail graph leaders r are below = omega (arith, are.least r below)

pub leaders_rails : (graph : Graph) (leaders : List ℕ) → AreLeaders graph.group leaders → AreRails (count_of graph) leaders
leaders_rails graph leaders are = record { size = are.size; below = λ r below. leader_rail graph leaders r are below }

-- the two rails of a feed
pub feed_rails : (graph : Graph) (only_linked : Bool) (upper lower : ℕ) → IsGraph graph → feeder_of graph only_linked lower ≡ Some upper → (upper < count_of graph) × (lower < count_of graph)
feed_rails graph only_linked upper lower is feeds =
    let supplies = feeder_supplies graph only_linked upper lower feeds in (supply_rail graph upper lower is supplies, supplied_rail graph upper lower is supplies)

pub feeds_below : (graph : Graph) (leaders : List ℕ) (only_linked : Bool) (a b : ℕ) → IsGraph graph → AreRails (count_of graph) leaders → FeedsLeader graph leaders only_linked a b
    → (a < count_of graph) × (b < count_of graph)
feeds_below graph leaders only_linked a b is are feeds =
    let rails = feed_rails graph only_linked feeds.upper feeds.lower is feeds.feeds in
    (omega (arith, feeds.leads_upper, are.below feeds.upper rails.0), omega (arith, feeds.leads_lower, are.below feeds.lower rails.1))

-- where each pair's first number is below a count
pub all_below : (count : ℕ) (pairs : List (ℕ × ℕ)) → ((a b : ℕ) → HasPair pairs a b → a < count) → AreBelow count pairs
all_below count pairs each i within = let pair : ℕ × ℕ = get_or pairs i (0, 0) in each pair.0 pair.1 (Contains-get_or {X = ℕ × ℕ} pairs i (0, 0) within)

pub feeds_are_below : (graph : Graph) (leaders : List ℕ) (only_linked : Bool) → IsGraph graph → AreRails (count_of graph) leaders → AreBelow (count_of graph) (feeds_of graph leaders only_linked (count_of graph))
feeds_are_below graph leaders only_linked is are =
    all_below (count_of graph) (feeds_of graph leaders only_linked (count_of graph)) (λ a b has. (feeds_below graph leaders only_linked a b is are (pair_feeds graph leaders only_linked (count_of graph) a b has)).0)

pub turned_are_below : (graph : Graph) (leaders : List ℕ) (only_linked : Bool) → IsGraph graph → AreRails (count_of graph) leaders → AreBelow (count_of graph) (turned (feeds_of graph leaders only_linked (count_of graph)))
turned_are_below graph leaders only_linked is are =
    all_below (count_of graph) (turned (feeds_of graph leaders only_linked (count_of graph)))
    (λ a b has. (feeds_below graph leaders only_linked b a is are (pair_feeds graph leaders only_linked (count_of graph) b a (turned_pair (feeds_of graph leaders only_linked (count_of graph)) a b has))).1)
