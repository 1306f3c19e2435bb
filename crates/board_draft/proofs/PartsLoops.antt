-- The loops of the rails' graph, looked for among the rails.
use Rattle.std.proofs.Common.{◌≡◌, ℕ, ◌+◌, ◌<◌, ◌≤◌, Bool, true, false, cond, List, [], ◌∷◌, Option, None, Some, refl, sym, ap, ◌∙◌, subst, arith, find, length, get_or, inl, inr}
use Rattle.std.specs.List.{enumerate_from}
use Rattle.std.specs.Option.{option_map}
use Rattle.std.proofs.lemmas.Bool.{cases_lt}
use Rattle.std.proofs.lemmas.List.{length-map}
use Rattle.std.proofs.lemmas.List.FromFn.{length-enumerate_from}
use Rattle.std.proofs.lemmas.Option.{slice_get_within, slice_get-get_or}
use Rattle.board_graph.specs.declared.graph.Graph.{Graph}
use Rattle.board_graph.specs.Graph.{count_of, IsGraph, Supplies, IsOnSupplyLoop, Feeds, IsOnBlockLoop}
use Rattle.board_graph.specs.Loops.{is_on_supply_loop, is_on_block_loop, IsLeastSuch}
use Rattle.board_graph.specs.Order.{IsOrder}
use Rattle.board_graph.specs.Ways.{IsWay, Leads}
use Rattle.board_graph.proofs.Ways.{step_leads}
use Rattle.board_graph.proofs.LoopLaws.{above_is_lem, loop_is_lem}
use Rattle.board_graph.proofs.LoopsHaveNoOrder.{loops_have_no_order}
use Rattle.board_graph.proofs.SetLaws.{supply_rail, supplied_rail}
use Rattle.dts_tree.specs.Tree.{Node}
use Rattle.dts_nodes.specs.Firsts.{first_of}
use Rattle.board_nodes.specs.Rails.{Found}
use Rattle.board_draft.specs.declared.fault.BoardFault.{BoardFault}
use Rattle.board_draft.specs.declared.fault.BoardFault.TheVariants.{NoSupply, SupplyLoop, NoCouple, GroupLoop}
use Rattle.board_draft.specs.Links.{lacks_supply, names_badly, group_of, graph_of}
use Rattle.board_draft.specs.declared.parts.Turns.{Turns}
use Rattle.board_draft.specs.declared.parts.Turns.TheVariants.{Order, Loop}
use Rattle.board_draft.specs.Inside.Turns.{IsSupplyFault, AreTurns}
use Rattle.board_draft.specs.Faults.{rail_faults, at_rail, group_fault, link_fault}

module _ {X A : Type 0} (test : ℕ → Bool) (fault : ℕ → A) where
  least_from : (n r : ℕ) (xs : List X) → n ≤ r → r < n + length xs → test r ≡ true → ((other : ℕ) → test other ≡ true → r ≤ other)
      → option_map (λ (p : ℕ × X). fault p.0) (find (λ p. test p.0) (enumerate_from n xs)) ≡ Some (fault r)
  least_from n r [] from below passes least = absurd (omega (arith, from, below))
  least_from n r (x ∷ xs) from below passes least =
      (elim (test n) as (λ b. test n ≡ b → option_map (λ (p : ℕ × X). fault p.0) (cond b (Some (n, x)) (find (λ p. test p.0) (enumerate_from (n + 1) xs))) ≡ Some (fault r)) [
        | true ↦ λ is. let number : n ≡ r = omega (arith, from, least n is) in ap (λ m. Some (fault m)) number
        | false ↦ λ is. elim (cases_lt n r) [
          | inl less ↦ least_from (n + 1) r xs (omega (arith, less)) (omega (arith, below)) passes least
          | inr more ↦ let number : n ≡ r = omega (arith, from, more) in let never : false ≡ true = sym is ∙ ap test number ∙ passes in absurd (cc)
        ]
      ]) refl

  -- the least number that passes is told
  least_told : (r : ℕ) (xs : List X) → r < length xs → test r ≡ true → ((other : ℕ) → test other ≡ true → r ≤ other)
      → option_map (λ (p : ℕ × X). fault p.0) (find (λ p. test p.0) (enumerate_from 0 xs)) ≡ Some (fault r)
  least_told r xs below = least_from 0 r xs (omega arith) (omega (arith, below))

  -- where none passes, none is told
  none_told : (n : ℕ) (xs : List X) → ((r : ℕ) → test r ≡ false) → option_map (λ (p : ℕ × X). fault p.0) (find (λ p. test p.0) (enumerate_from n xs)) ≡ None
  none_told n [] fails = refl
  none_told n (x ∷ xs) fails = ap (λ b. option_map (λ (p : ℕ × X). fault p.0) (cond b (Some (n, x)) (find (λ p. test p.0) (enumerate_from (n + 1) xs)))) (fails n) ∙ none_told (n + 1) xs fails

-- a test that never passes
fails : (b : Bool) → (b ≡ true → ⊥) → b ≡ false
fails true never = absurd (never refl)
fails false never = refl

-- the supply's group feeds the rail's
group_feeds : (graph : Graph) (upper lower : ℕ) → IsGraph graph → Supplies graph upper lower → Feeds graph (get_or graph.group upper 0) (get_or graph.group lower 0)
group_feeds graph upper lower is supplies =
    record {
      upper = upper;
      lower = lower;
      supplies = supplies;
      in_above = slice_get-get_or graph.group upper 0 (supply_rail graph upper lower is supplies);
      in_below = slice_get-get_or graph.group lower 0 (supplied_rail graph upper lower is supplies);
    }

-- the groups go the way of the supplies
groups_lead : (graph : Graph) (upper lower : ℕ) (between : List ℕ) → IsGraph graph → IsWay (Supplies graph) upper between lower
    → Leads (Feeds graph) (get_or graph.group upper 0) (get_or graph.group lower 0)
groups_lead graph upper lower [] is way =
    record { between = []; way = group_feeds graph upper lower is way }
groups_lead graph upper lower (via ∷ rest) is way =
    step_leads (get_or graph.group upper 0) (get_or graph.group via 0) (get_or graph.group lower 0) (group_feeds graph upper via is way.0) (groups_lead graph via lower rest is way.1)

-- what is above others is a rail
above_rail : (graph : Graph) (upper lower : ℕ) (between : List ℕ) → IsGraph graph → IsWay (Supplies graph) upper between lower → upper < count_of graph
above_rail graph upper lower [] is way = supply_rail graph upper lower is way
above_rail graph upper lower (via ∷ rest) is way = supply_rail graph upper via is way.0

-- a loop of supplies is one of blocks
block_loop : (graph : Graph) (r : ℕ) → IsGraph graph → IsOnSupplyLoop graph r → IsOnBlockLoop graph r
block_loop graph r is on =
    record {
      group = get_or graph.group r 0;
      in_group = slice_get-get_or graph.group r 0 (above_rail graph r r on.between is on.way);
      loop = groups_lead graph r r on.between is on.way;
    }

module _ (graph : Graph) (rails : List Found) (is : IsGraph graph) (count : count_of graph ≡ length rails) where
  supply_loop_told : (r : ℕ) → IsLeastSuch (IsOnSupplyLoop graph) r → at_rail rails (λ r rail. is_on_supply_loop graph r) SupplyLoop ≡ Some (SupplyLoop r)
  supply_loop_told r such =
      let below : r < length rails = subst (λ n. r < n) count (above_rail graph r r such.such.between is such.such.way) in
      least_told (is_on_supply_loop graph) (λ n. SupplyLoop n) r rails below ((above_is_lem graph r r is).0 such.such) (λ other test. such.least other ((above_is_lem graph other other is).1 test))

  pub no_supply_loop_told : ((r : ℕ) → ¬ IsOnSupplyLoop graph r) → at_rail rails (λ r rail. is_on_supply_loop graph r) SupplyLoop ≡ None
  no_supply_loop_told never = none_told (is_on_supply_loop graph) (λ n. SupplyLoop n) 0 rails (λ r. fails (is_on_supply_loop graph r) (λ test. never r ((above_is_lem graph r r is).1 test)))

  pub group_loop_told : (r : ℕ) → IsLeastSuch (IsOnBlockLoop graph) r → at_rail rails (λ r rail. is_on_block_loop graph r) GroupLoop ≡ Some (GroupLoop r)
  group_loop_told r such =
      let below : r < length rails = subst (λ n. r < n) count (slice_get_within graph.group r such.such.group such.such.in_group) in
      least_told (is_on_block_loop graph) (λ n. GroupLoop n) r rails below ((loop_is_lem graph r is).0 such.such) (λ other test. such.least other ((loop_is_lem graph other is).1 test))

  pub no_group_loop_told : ((r : ℕ) → ¬ IsOnBlockLoop graph r) → at_rail rails (λ r rail. is_on_block_loop graph r) GroupLoop ≡ None
  no_group_loop_told never = none_told (is_on_block_loop graph) (λ n. GroupLoop n) 0 rails (λ r. fails (is_on_block_loop graph r) (λ test. never r ((loop_is_lem graph r is).1 test)))

-- rails with an order are on no loop
order_no_supply_loop : (graph : Graph) (order : List ℕ) → IsGraph graph → IsOrder graph order → (r : ℕ) → ¬ IsOnSupplyLoop graph r
order_no_supply_loop graph order is ordered r on = loops_have_no_order graph order ordered r (block_loop graph r is on)

-- there are as many groups as rails
pub count_of_rails : (nodes : List Node) (rails : List Found) → count_of (graph_of nodes rails) ≡ length rails
count_of_rails nodes rails = length-map (enumerate_from 0 rails) (λ rail. group_of nodes rails rail.0 rail.1) ∙ length-enumerate_from 0 rails

six_told : {A : Type 0} (a b c d e f a2 b2 c2 d2 e2 f2 : Option A) → a ≡ a2 → b ≡ b2 → c ≡ c2 → d ≡ d2 → e ≡ e2 → f ≡ f2
    → first_of (a ∷ b ∷ c ∷ d ∷ e ∷ f ∷ []) ≡ first_of (a2 ∷ b2 ∷ c2 ∷ d2 ∷ e2 ∷ f2 ∷ [])
six_told a b c d e f a2 b2 c2 d2 e2 f2 p q r s t u =
    ap (λ x. first_of (x ∷ b ∷ c ∷ d ∷ e ∷ f ∷ [])) p ∙ ap (λ x. first_of (a2 ∷ x ∷ c ∷ d ∷ e ∷ f ∷ [])) q ∙ ap (λ x. first_of (a2 ∷ b2 ∷ x ∷ d ∷ e ∷ f ∷ [])) r
    ∙ ap (λ x. first_of (a2 ∷ b2 ∷ c2 ∷ x ∷ e ∷ f ∷ [])) s ∙ ap (λ x. first_of (a2 ∷ b2 ∷ c2 ∷ d2 ∷ x ∷ f ∷ [])) t ∙ ap (λ x. first_of (a2 ∷ b2 ∷ c2 ∷ d2 ∷ e2 ∷ x ∷ [])) u

-- what is wrong with the links of rails, by what each of the tests tells
pub links_told : (nodes : List Node) (rails : List Found) (a b c d e f told : Option BoardFault)
    → rail_faults nodes rails ≡ a
    → at_rail rails (λ r rail. lacks_supply nodes rails rail) NoSupply ≡ b
    → at_rail rails (λ r rail. is_on_supply_loop (graph_of nodes rails) r) SupplyLoop ≡ c
    → at_rail rails (names_badly nodes rails) NoCouple ≡ d
    → group_fault nodes rails ≡ e
    → at_rail rails (λ r rail. is_on_block_loop (graph_of nodes rails) r) GroupLoop ≡ f
    → first_of (a ∷ b ∷ c ∷ d ∷ e ∷ f ∷ []) ≡ told → link_fault nodes rails ≡ told
links_told nodes rails a b c d e f told p q r s t u is = six_told _ _ _ _ _ _ a b c d e f p q r s t u ∙ is

-- where rails have turns none is on a loop of supplies
pub turns_no_supply_loop : (graph : Graph) (turns : Turns) → IsGraph graph → AreTurns graph turns → (r : ℕ) → ¬ IsOnSupplyLoop graph r
turns_no_supply_loop graph (Order order) is turns = order_no_supply_loop graph order is turns
turns_no_supply_loop graph (Loop r) is turns = turns.0

pub supply_fault_told : (graph : Graph) (rails : List Found) (fault : BoardFault) → IsGraph graph → count_of graph ≡ length rails → IsSupplyFault graph fault
    → at_rail rails (λ r rail. is_on_supply_loop graph r) SupplyLoop ≡ Some fault
supply_fault_told graph rails (SupplyLoop r) is count such = supply_loop_told graph rails is count r such
supply_fault_told graph rails _ is count such = absurd such
