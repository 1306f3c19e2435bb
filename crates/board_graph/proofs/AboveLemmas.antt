-- The rails that are met on the way up from a rail are the supplies above it.
use Rattle.std.proofs.Common.{◌≡◌, ℕ, zero, suc, ◌+◌, ◌<◌, ◌⊎◌, inl, inr, Bool, true, false, cond, List, [], ◌∷◌, ◌++◌, Option, Some, None, Result, Ok, Err, length, filter, get_or, set, replicate, refl, sym, ap, ◌∙◌, subst, arith, AllPairs}
use Rattle.std.specs.declared.alloc.AllocError.{AllocError}
use Rattle.std.specs.Result.{IfOk}
use Rattle.std.specs.List.{range_with_len}
use Rattle.std.specs.Option.{option_and_then, option_to_list}
use Rattle.std.proofs.lemmas.Bool.{cases_eq}
use Rattle.std.proofs.lemmas.Option.{slice_get-get_or}
use Rattle.std.proofs.lemmas.List.{get_or-set_same, get_or-set_other, length-set, length-replicate}
use Rattle.std.proofs.lemmas.List.Kept.{AllPairs-filter}
use Rattle.std.proofs.lemmas.List.Sums.{sum_by-set}
use Rattle.board_graph.specs.declared.graph.Graph.{Graph}
use Rattle.board_graph.specs.Ways.{IsWay}
use Rattle.board_graph.specs.Graph.{count_of, supply_at, IsGraph, Supplies, IsAbove}
use Rattle.board_graph.specs.Sets.{is_supply_of, rails_of, grown_times}
use Rattle.board_graph.specs.Loops.{above}
use Rattle.board_graph.specs.Inside.Above.{marked, unmarked, IsMarked, AreAbove, AreMet}
use Rattle.board_graph.proofs.Ways.{step_leads}
use Rattle.board_graph.proofs.BlockLemmas.{range_push, filter_push}
use Rattle.board_graph.proofs.Growth.{taken_from, from_taken, is_rail, kept, passed, rising_range, joins}
use Rattle.board_graph.proofs.SetLaws.{supply_rail}
use Rattle.board_graph.proofs.LoopLaws.{above_is_lem}
use Rattle.board_graph.proofs.RisingLists.{rising_same}

pub marked_more : (marks : List Bool) (n : ℕ) → marked marks (n + 1) ≡ marked marks n ++ cond (get_or marks n false) (n ∷ []) []
marked_more marks n =
    let e : 0 + n ≡ n = omega arith in
    ap (filter (λ v. get_or marks v false)) (range_push 0 n ∙ ap (λ k. range_with_len 0 n ++ k ∷ []) e) ∙ filter_push (λ v. get_or marks v false) (range_with_len 0 n) n

-- what is above a rail is a rail
pub above_rail : (graph : Graph) (upper lower : ℕ) → IsGraph graph → IsAbove graph upper lower → upper < count_of graph
above_rail graph upper lower is leads = by leads.between leads.way where
  by : (between : List ℕ) → IsWay (Supplies graph) upper between lower → upper < count_of graph
  by [] way = supply_rail graph upper lower is way
  by (via ∷ rest) way = supply_rail graph upper via is way.0

-- no flag is set at the start
none_marked : (n v : ℕ) → get_or (replicate n false) v false ≡ false
none_marked zero v = refl
none_marked (suc n) zero = refl
none_marked (suc n) (suc v) = none_marked n v

-- a rail's supply, as it is read
supply_read : (graph : Graph) (r : ℕ) → IsGraph graph → r < count_of graph → supply_at graph r ≡ get_or graph.supply r None
supply_read graph r is below = ap (option_and_then (λ supply. supply)) (slice_get-get_or graph.supply r None (omega (arith, is.supplies)))

-- at the start no rail is met, and the rail's supply comes next
pub first_met : (graph : Graph) (r : ℕ) → IsGraph graph → r < count_of graph → AreMet graph r (replicate (count_of graph) false) (get_or graph.supply r None)
first_met graph r is below = record {
  size = length-replicate (count_of graph) false;
  on = λ v on. let off = none_marked (count_of graph) v in absurd (cc (on, off));
  ahead = λ supply there. record { between = []; way = supply_read graph r is below ∙ there };
  goes = λ upper lower supplies from. elim from [
    | inl same ↦ inr (sym (supply_read graph r is below) ∙ subst (Supplies graph upper) same supplies)
    | inr on ↦ let off = none_marked (count_of graph) lower in absurd (cc (on, off))
  ];
}

-- the rail that comes next is met, and its supply comes next
pub met_more : (graph : Graph) (r supply : ℕ) (met : List Bool) → IsGraph graph → AreMet graph r met (Some supply) → AreMet graph r (set met supply true) (get_or graph.supply supply None)
met_more graph r supply met is are = record {
  size = length-set met supply true ∙ are.size;
  on = λ v on. elim (cases_eq v supply) [
    | inl same ↦ subst (λ x. IsAbove graph x r) (sym same) (are.ahead supply refl)
    | inr apart ↦ are.on v (sym (get_or-set_other met supply v true false apart) ∙ on)
  ];
  ahead = λ upper there. step_leads upper supply r (read ∙ there) (are.ahead supply refl);
  goes = λ upper lower supplies from. elim (cases_eq lower supply) [
    | inl same ↦ inr (sym read ∙ subst (Supplies graph upper) same supplies)
    | inr apart ↦ elim (are.goes upper lower supplies (before lower apart from)) [
      | inl on ↦ inl (stays upper on)
      | inr next ↦ let same : upper ≡ supply = cc (next) in inl (subst (IsMarked (set met supply true)) (sym same) here)
    ]
  ];
} where
  below : supply < count_of graph
  below = above_rail graph supply r is (are.ahead supply refl)

  read : supply_at graph supply ≡ get_or graph.supply supply None
  read = supply_read graph supply is below

  here : IsMarked (set met supply true) supply
  here = get_or-set_same met supply true false (omega (arith, are.size, below))

  stays : (v : ℕ) → IsMarked met v → IsMarked (set met supply true) v
  stays v on = elim (cases_eq v supply) [
    | inl same ↦ subst (IsMarked (set met supply true)) (sym same) here
    | inr apart ↦ get_or-set_other met supply v true false apart ∙ on
  ]

  before : (lower : ℕ) → ¬ (lower ≡ supply) → (lower ≡ r) ⊎ IsMarked (set met supply true) lower → (lower ≡ r) ⊎ IsMarked met lower
  before lower apart (inl same) = inl same
  before lower apart (inr on) = inr (sym (get_or-set_other met supply lower true false apart) ∙ on)

pub unmarked_less : (met : List Bool) (v : ℕ) → v < length met → get_or met v false ≡ false → unmarked (set met v true) < unmarked met
unmarked_less met v below off =
    let sum = sum_by-set (λ mark. cond mark 0 1) met v true false below in
    let weight : Bool → ℕ = λ mark. cond mark 0 1 in
    let one : weight (get_or met v false) ≡ 1 = ap weight off in
    omega (arith, sum, one)

-- once no rail comes next that wasn't met, all are met
pub all_met : (graph : Graph) (r : ℕ) (met : List Bool) (next : Option ℕ) → AreMet graph r met next → ((supply : ℕ) → next ≡ Some supply → IsMarked met supply) → AreAbove graph r met
all_met graph r met next are last = record { size = are.size; on = are.on; all = λ v leads. by v leads.between leads.way } where
  settled : (v : ℕ) → IsMarked met v ⊎ (next ≡ Some v) → IsMarked met v
  settled v (inl on) = on
  settled v (inr is) = last v is

  by : (v : ℕ) (between : List ℕ) → IsWay (Supplies graph) v between r → IsMarked met v
  by v [] way = settled v (are.goes v r way (inl refl))
  by v (via ∷ rest) way = settled v (are.goes v via way.0 (inr (by via rest way.1)))

-- the supplies above a rail stand by rising numbers
above_rises : (graph : Graph) (r : ℕ) → r < count_of graph → AllPairs (λ i j. i < j) (above graph r)
above_rises graph r below = by (count_of graph) below where
  by : (n : ℕ) → r < n → AllPairs (λ i j. i < j) (grown_times graph (is_supply_of graph) (option_to_list (supply_at graph r)) n)
  by zero below = absurd (omega arith)
  by (suc n) below = AllPairs-filter (λ i j. i < j) (joins (is_supply_of graph) (grown_times graph (is_supply_of graph) (option_to_list (supply_at graph r)) n)) (rails_of graph) (rising_range 0 (count_of graph))

marked_above : (graph : Graph) (r : ℕ) (met : List Bool) → IsGraph graph → r < count_of graph → AreAbove graph r met → marked met (count_of graph) ≡ above graph r
marked_above graph r met is below are =
    rising_same (marked met (count_of graph)) (above graph r) (AllPairs-filter (λ i j. i < j) is_met (rails_of graph) (rising_range 0 (count_of graph))) (above_rises graph r below)
    (λ i has. from_taken (above graph r) i ((above_is_lem graph i r is).0 (are.on i (passed is_met (rails_of graph) i (taken_from (marked met (count_of graph)) i has)).1)))
    (λ i has. let leads = (above_is_lem graph i r is).1 (taken_from (above graph r) i has) in
    from_taken (marked met (count_of graph)) i (kept is_met (rails_of graph) i (is_rail graph i (above_rail graph i r is leads)) (are.all i leads))) where
      is_met : ℕ → Bool
      is_met v = get_or met v false

pub marked_ok : (graph : Graph) (r : ℕ) (met : List Bool) (result : Result (List ℕ) AllocError) → IsGraph graph → r < count_of graph → AreAbove graph r met
    → IfOk result (λ numbers. numbers ≡ marked met (length met)) → IfOk result (λ set. set ≡ above graph r)
marked_ok graph r met (Err e) is below are numbers = tt
marked_ok graph r met (Ok found) is below are numbers = numbers ∙ ap (marked met) are.size ∙ marked_above graph r met is below are
