-- What the tests of loops say.
use Rattle.std.proofs.Common.{◌≡◌, ℕ, zero, suc, Bool, true, false, ◌||◌, ◌⊎◌, inl, inr, List, [], ◌∷◌, Some, None, refl, sym, ap, ◌∙◌, subst, slice_get, get_or, Contains}
use Rattle.std.specs.Prelude.{◌↔◌}
use Rattle.std.specs.List.{list_any}
use Rattle.std.specs.Option.{option_map_or, option_to_list}
use Rattle.std.proofs.lemmas.Bool.{or_cases}
use Rattle.std.proofs.lemmas.Option.{slice_get_within, slice_get-get_or}
use Rattle.board_graph.specs.declared.graph.Graph.{Graph}
use Rattle.board_graph.specs.Ways.{IsWay, Leads}
use Rattle.board_graph.specs.Graph.{count_of, IsGraph, supply_at, Supplies, IsAbove, IsIn, members, Feeds, IsOnBlockLoop}
use Rattle.board_graph.specs.Order.{is_taken}
use Rattle.board_graph.specs.Sets.{is_supply_of, is_guard_of, rails_of, grown_times, closure, HoldsGuards}
use Rattle.board_graph.specs.Loops.{is_above, block_of, has_supply_on, is_on_block_loop}
use Rattle.board_graph.proofs.Ways.{step_leads, leads_step, last_step}
use Rattle.board_graph.proofs.Members.{is_member, member_is}
use Rattle.board_graph.proofs.Growth.{taken_from, any_at, any_from, passed, has_first, closed, ever}
use Rattle.board_graph.proofs.SetLaws.{is_number, number_is, supply_rail, supplied_rail, closure_is_least_lem, guard_cases}

-- nothing grows from nothing
from_none : (graph : Graph) (takes : ℕ → ℕ → Bool) (n i : ℕ) → is_taken (grown_times graph takes [] n) i ≡ true → ⊥
from_none graph takes zero i taken = cc
from_none graph takes (suc n) i taken = elim (or_cases _ _ (passed (λ k. is_taken (grown_times graph takes [] n) k || list_any (takes k) (grown_times graph takes [] n)) (rails_of graph) i taken).1) [
  | inl here ↦ from_none graph takes n i here
  | inr there ↦ let by = any_from (takes i) (grown_times graph takes [] n) there in from_none graph takes n by.0 by.1
]

-- with a supply, what is above a rail grows from that
above_from : (graph : Graph) (upper lower supply : ℕ) → supply_at graph lower ≡ Some supply
    → is_above graph upper lower ≡ is_taken (grown_times graph (is_supply_of graph) (supply ∷ []) (count_of graph)) upper
above_from graph upper lower supply is = ap (λ there. is_taken (grown_times graph (is_supply_of graph) (option_to_list there) (count_of graph)) upper) is

by_test : (graph : Graph) (upper lower : ℕ) → IsGraph graph → is_above graph upper lower ≡ true → IsAbove graph upper lower
by_test graph upper lower is test =
    (elim (supply_at graph lower) as (λ o. supply_at graph lower ≡ o → IsAbove graph upper lower) [
      | None ↦ λ none. absurd (from_none graph (is_supply_of graph) (count_of graph) upper (ap (λ there. is_taken (grown_times graph (is_supply_of graph) (option_to_list there) (count_of graph)) upper) (sym none) ∙ test))
      | Some supply ↦ λ supplies. ever graph (is_supply_of graph) supply (supply_rail graph supply lower is supplies) (λ i. IsAbove graph i lower)
          (record { between = []; way = supplies })
          (λ i j takes above_lower. step_leads i j lower (is_number i (supply_at graph j) takes) above_lower)
          (count_of graph) upper (sym (above_from graph upper lower supply supplies) ∙ test)
    ]) refl

-- a supply of what is above a rail is above it
next_above : (graph : Graph) (upper via lower : ℕ) → IsGraph graph → Supplies graph upper via → is_above graph via lower ≡ true → is_above graph upper lower ≡ true
next_above graph upper via lower is supplies test =
    (elim (supply_at graph lower) as (λ o. supply_at graph lower ≡ o → is_above graph upper lower ≡ true) [
      | None ↦ λ none. absurd (from_none graph (is_supply_of graph) (count_of graph) via (ap (λ there. is_taken (grown_times graph (is_supply_of graph) (option_to_list there) (count_of graph)) via) (sym none) ∙ test))
      | Some supply ↦ λ first. above_from graph upper lower supply first
          ∙ closed graph (is_supply_of graph) supply (supply_rail graph supply lower is first) upper via (supply_rail graph upper via is supplies)
          (number_is upper (supply_at graph via) supplies) (sym (above_from graph via lower supply first) ∙ test)
    ]) refl

by_way : (graph : Graph) (upper lower : ℕ) (between : List ℕ) → IsGraph graph → IsWay (Supplies graph) upper between lower → is_above graph upper lower ≡ true
by_way graph upper lower [] is way =
    above_from graph upper lower upper way ∙ has_first graph (is_supply_of graph) upper (supply_rail graph upper lower is way) (count_of graph)
by_way graph upper lower (via ∷ rest) is way = next_above graph upper via lower is way.0 (by_way graph via lower rest is way.1)

pub above_is_lem : (graph : Graph) (upper lower : ℕ) → IsGraph graph → IsAbove graph upper lower ↔ is_above graph upper lower ≡ true
above_is_lem graph upper lower is = (λ leads. by_way graph upper lower leads.between is leads.way, by_test graph upper lower is)

-- a set in which each rail's block and supply are has, with a rail of a block, each rail of the blocks that lead to it
leads_in : (graph : Graph) (set : List ℕ) (first last r low : ℕ) (between : List ℕ) → HoldsGuards graph set → IsWay (Feeds graph) first between last
    → IsIn graph first r → IsIn graph last low → Contains set low → Contains set r
leads_in graph set first last r low [] such feeds in_first in_last has =
    let lower : Contains set feeds.lower = such.blocks feeds.lower low (record { group = last; first = feeds.in_below; second = in_last }) has in
    let upper : Contains set feeds.upper = such.supplies feeds.upper feeds.lower feeds.supplies lower in
    such.blocks r feeds.upper (record { group = first; first = in_first; second = feeds.in_above }) upper
leads_in graph set first last r low (via ∷ rest) such way in_first in_last has =
    let feeds = way.0 in
    let lower : Contains set feeds.lower = leads_in graph set via last feeds.lower low rest such way.1 feeds.in_below in_last has in
    let upper : Contains set feeds.upper = such.supplies feeds.upper feeds.lower feeds.supplies lower in
    such.blocks r feeds.upper (record { group = first; first = in_first; second = feeds.in_above }) upper

block_of_group : (graph : Graph) (r group : ℕ) → IsIn graph group r → block_of graph r ≡ members graph group
block_of_group graph r group in_group = ap (λ there. option_map_or (members graph) there []) in_group

loop_test : (graph : Graph) (r : ℕ) → IsGraph graph → IsOnBlockLoop graph r → is_on_block_loop graph r ≡ true
loop_test graph r is on =
    let group : ℕ = on.group in
    let last = last_step group group on.loop.between on.loop.way in
    let feeds : Feeds graph last.0 group = last.1 in
    let least = closure_is_least_lem graph feeds.upper is (slice_get_within graph.group feeds.upper last.0 feeds.in_above) in
    let has : Contains (closure graph feeds.upper) r = elim last.2 [
      | inl same ↦ least.such.blocks r feeds.upper
          (record { group = group; first = on.in_group; second = subst (λ g. IsIn graph g feeds.upper) same feeds.in_above }) least.has
      | inr leads ↦ leads_in graph (closure graph feeds.upper) group last.0 r feeds.upper leads.between least.such leads.way on.in_group feeds.in_above least.has
    ] in
    let test : has_supply_on graph r feeds.lower ≡ true =
    ap (λ there. option_map_or (λ supply. is_taken (closure graph supply) r) there false) feeds.supplies ∙ taken_from (closure graph feeds.upper) r has in
    ap (list_any (has_supply_on graph r)) (block_of_group graph r group on.in_group)
    ∙ any_at (has_supply_on graph r) (members graph group) feeds.lower (is_member graph group feeds.lower feeds.in_below) test

-- the rail is of the block, or of one that leads to it
abbrev LeadsTo : Graph → ℕ → ℕ → Type 0
LeadsTo graph last r = (group : ℕ) → IsIn graph group r → (group ≡ last) ⊎ Leads (Feeds graph) group last

leads_on : (graph : Graph) (first group last : ℕ) → Feeds graph first group → ((group ≡ last) ⊎ Leads (Feeds graph) group last) → Leads (Feeds graph) first last
leads_on graph first group last feeds (inl same) = subst (λ g. Leads (Feeds graph) first g) same (record { between = []; way = feeds })
leads_on graph first group last feeds (inr leads) = step_leads first group last feeds leads

takes_leads : (graph : Graph) (last i j : ℕ) → IsGraph graph → is_guard_of graph i j ≡ true → LeadsTo graph last j → LeadsTo graph last i
takes_leads graph last i j is takes before group in_group = elim (guard_cases graph i j takes) [
  | inl supplies ↦
      let in_below : IsIn graph (get_or graph.group j 0) j = slice_get-get_or graph.group j 0 (supplied_rail graph i j is supplies) in
      let feeds : Feeds graph group (get_or graph.group j 0) = record { upper = i; lower = j; supplies = supplies; in_above = in_group; in_below = in_below } in
      inr (leads_on graph group (get_or graph.group j 0) last feeds (before (get_or graph.group j 0) in_below))
  | inr block ↦
      let same : block.group ≡ group = cc (block.first, in_group) in
      before group (subst (λ g. IsIn graph g j) same block.second)
]

loop_by_test : (graph : Graph) (r : ℕ) → IsGraph graph → is_on_block_loop graph r ≡ true → IsOnBlockLoop graph r
loop_by_test graph r is test =
    (elim (slice_get graph.group r) as (λ o. slice_get graph.group r ≡ o → IsOnBlockLoop graph r) [
      | None ↦ λ none. let never : list_any (has_supply_on graph r) [] ≡ true = ap (λ there. list_any (has_supply_on graph r) (option_map_or (members graph) there [])) (sym none) ∙ test in absurd (cc)
      | Some group ↦ λ in_group.
          let there = any_from (has_supply_on graph r) (members graph group) (ap (list_any (has_supply_on graph r)) (sym (block_of_group graph r group in_group)) ∙ test) in
          by group in_group there.0 (member_is graph group there.0 there.1) there.2
    ]) refl
  where
    by : (group : ℕ) → IsIn graph group r → (lower : ℕ) → IsIn graph group lower → has_supply_on graph r lower ≡ true → IsOnBlockLoop graph r
    by group in_group lower in_below rests =
        (elim (supply_at graph lower) as (λ o. supply_at graph lower ≡ o → option_map_or (λ supply. is_taken (closure graph supply) r) o false ≡ true → IsOnBlockLoop graph r) [
          | None ↦ λ _ never. absurd (cc)
          | Some upper ↦ λ supplies has.
              let within = supply_rail graph upper lower is supplies in
              let in_above : IsIn graph (get_or graph.group upper 0) upper = slice_get-get_or graph.group upper 0 within in
              let last : ℕ = get_or graph.group upper 0 in
              let feeds : Feeds graph last group = record { upper = upper; lower = lower; supplies = supplies; in_above = in_above; in_below = in_below } in
              let leads : LeadsTo graph last r = ever graph (is_guard_of graph) upper within (LeadsTo graph last)
              (λ other in_other. let same : other ≡ last = cc (in_other, in_above) in inl same)
              (λ i j takes before. takes_leads graph last i j is takes before) (count_of graph) r has in
              record {
                group = group;
                in_group = in_group;
                loop = elim (leads group in_group) [
                  | inl same ↦ record { between = []; way = subst (λ g. Feeds graph g group) (sym same) feeds }
                  | inr before ↦ leads_step group last group before feeds
                ];
              }
        ]) refl rests

pub loop_is_lem : (graph : Graph) (r : ℕ) → IsGraph graph → IsOnBlockLoop graph r ↔ is_on_block_loop graph r ≡ true
loop_is_lem graph r is = (loop_test graph r is, loop_by_test graph r is)
