use Rattle.std.proofs.Common.{ℕ, ◌≤◌, ◌∙◌, None, Some, map, length, refl, sym, ap, subst, arith}
use Rattle.std.specs.Option.{option_map}
use Rattle.std.proofs.lemmas.List.{length-map}
use Rattle.std.proofs.lemmas.Result.{err_from_is_err_and}
use Rattle.board_graph.specs.Graph.{IsGraph}
use Rattle.board_graph.specs.Order.{IsOrder}
use Rattle.board_graph.proofs.LoopsHaveNoOrder.{loops_have_no_order}
use Rattle.board_nodes.specs.Rails.{seen}
use Rattle.board_draft.specs.declared.fault.BoardFault.TheVariants.{NoCouple, GroupLoop}
use Rattle.board_draft.specs.declared.parts.Turns.TheVariants.{Loop}
use Rattle.board_draft.specs.Inside.Turns.{IsSupplyFault, AreTurns}
use Rattle.board_draft.specs.Links.{graph_of}
use Rattle.board_draft.proofs.SoundGraph.{graph_is_graph}
use Rattle.board_draft.proofs.PartsLoops.{supply_fault_told, turns_no_supply_loop, no_supply_loop_told, group_loop_told, no_group_loop_told, count_of_rails, links_told}
use Rattle.board_draft.proofs.parts.parts_of.Goals as goal

pub turns_of-requires : goal.turns_of-requires
turns_of-requires c =
    let rails = map seen c.args.rails.now in
    let few : length rails ≤ 64 = omega (arith, length-map c.args.rails.now seen, c.requires) in
    subst IsGraph (sym c.in_ok-graph.ensures) (graph_is_graph c.args.tree.now rails few)

pub returns-in_err-turns-clause-fault : goal.returns-in_err-turns-clause-fault
returns-in_err-turns-clause-fault c =
    let p = err_from_is_err_and c.from_residual-in_err-turns.result c.from_residual-in_err-turns.ensures.1 in
    let nodes = c.args.tree.now in
    let rails = map seen c.args.rails.now in
    let graph = graph_of nodes rails in
    let few : length rails ≤ 64 = omega (arith, length-map c.args.rails.now seen, c.requires) in
    let fault = c.in_err-turns.field-0.0 in
    rw (p.1, p.2) (λ ne.
    let such : IsSupplyFault graph fault = subst (λ g. IsSupplyFault g fault) c.in_ok-graph.ensures (c.in_err-turns.ensures.fault ne) in
    links_told nodes rails None None (Some fault) _ _ _ _ c.in_ok-limits.ensures.none c.in_ok-supplies.ensures.none
    (supply_fault_told graph rails fault (graph_is_graph nodes rails few) (count_of_rails nodes rails) such) refl refl refl refl)

pub returns-in-Some-clause-fault : goal.returns-in-Some-clause-fault
returns-in-Some-clause-fault c = λ _.
    let nodes = c.args.tree.now in
    let rails = map seen c.args.rails.now in
    let graph = graph_of nodes rails in
    let few : length rails ≤ 64 = omega (arith, length-map c.args.rails.now seen, c.requires) in
    let is : IsGraph graph = graph_is_graph nodes rails few in
    let turns : AreTurns graph c.in_ok-turns.turns = subst (λ g. AreTurns g c.in_ok-turns.turns) c.in_ok-graph.ensures c.in_ok-turns.ensures.turns in
    links_told nodes rails None None None (Some (NoCouple c.in-Some.r)) _ _ _ c.in_ok-limits.ensures.none c.in_ok-supplies.ensures.none
    (no_supply_loop_told graph rails is (count_of_rails nodes rails) (turns_no_supply_loop graph c.in_ok-turns.turns is turns))
    (c.in_ok-couples.ensures.bad ∙ ap (option_map (λ (r : ℕ). NoCouple r)) c.in-Some.is) refl refl refl

pub returns-in_err-spreads-clause-fault : goal.returns-in_err-spreads-clause-fault
returns-in_err-spreads-clause-fault c =
    let p = err_from_is_err_and c.from_residual-in_err-spreads.result c.from_residual-in_err-spreads.ensures.1 in
    let nodes = c.args.tree.now in
    let rails = map seen c.args.rails.now in
    let graph = graph_of nodes rails in
    let few : length rails ≤ 64 = omega (arith, length-map c.args.rails.now seen, c.requires) in
    let is : IsGraph graph = graph_is_graph nodes rails few in
    let turns : AreTurns graph c.in_ok-turns.turns = subst (λ g. AreTurns g c.in_ok-turns.turns) c.in_ok-graph.ensures c.in_ok-turns.ensures.turns in
    rw (p.1, p.2) (λ ne.
    links_told nodes rails None None None None (Some c.in_err-spreads.field-0.0) _ _ c.in_ok-limits.ensures.none c.in_ok-supplies.ensures.none
    (no_supply_loop_told graph rails is (count_of_rails nodes rails) (turns_no_supply_loop graph c.in_ok-turns.turns is turns))
    (c.in_ok-couples.ensures.bad ∙ ap (option_map (λ (r : ℕ). NoCouple r)) c.in_default.is)
    (c.in_err-spreads.ensures.fault ne) refl refl)

pub returns-in-Order-clause-none : goal.returns-in-Order-clause-none
returns-in-Order-clause-none c =
    let nodes = c.args.tree.now in
    let rails = map seen c.args.rails.now in
    let graph = graph_of nodes rails in
    let few : length rails ≤ 64 = omega (arith, length-map c.args.rails.now seen, c.requires) in
    let is : IsGraph graph = graph_is_graph nodes rails few in
    let turns : AreTurns graph c.in_ok-turns.turns = subst (λ g. AreTurns g c.in_ok-turns.turns) c.in_ok-graph.ensures c.in_ok-turns.ensures.turns in
    let ordered : IsOrder graph c.in-Order.order = subst (AreTurns graph) c.in-Order.is turns in
    links_told nodes rails None None None None None None _ c.in_ok-limits.ensures.none c.in_ok-supplies.ensures.none
    (no_supply_loop_told graph rails is (count_of_rails nodes rails) (turns_no_supply_loop graph c.in_ok-turns.turns is turns))
    (c.in_ok-couples.ensures.bad ∙ ap (option_map (λ (r : ℕ). NoCouple r)) c.in_default.is)
    c.in_ok-spreads.ensures.none
    (no_group_loop_told graph rails is (count_of_rails nodes rails) (loops_have_no_order graph c.in-Order.order ordered)) refl

pub returns-in-Loop-clause-fault : goal.returns-in-Loop-clause-fault
returns-in-Loop-clause-fault c = λ _.
    let nodes = c.args.tree.now in
    let rails = map seen c.args.rails.now in
    let graph = graph_of nodes rails in
    let few : length rails ≤ 64 = omega (arith, length-map c.args.rails.now seen, c.requires) in
    let is : IsGraph graph = graph_is_graph nodes rails few in
    let turns : AreTurns graph c.in_ok-turns.turns = subst (λ g. AreTurns g c.in_ok-turns.turns) c.in_ok-graph.ensures c.in_ok-turns.ensures.turns in
    let looping : AreTurns graph (Loop c.in-Loop.r) = subst (AreTurns graph) c.in-Loop.is turns in
    links_told nodes rails None None None None None (Some (GroupLoop c.in-Loop.r)) _ c.in_ok-limits.ensures.none c.in_ok-supplies.ensures.none
    (no_supply_loop_told graph rails is (count_of_rails nodes rails) looping.0)
    (c.in_ok-couples.ensures.bad ∙ ap (option_map (λ (r : ℕ). NoCouple r)) c.in_default.is)
    c.in_ok-spreads.ensures.none
    (group_loop_told graph rails is (count_of_rails nodes rails) c.in-Loop.r looping.1) refl
