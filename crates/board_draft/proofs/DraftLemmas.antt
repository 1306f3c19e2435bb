-- The board of a tree is sound, and what is wrong with it is told first.
use Rattle.std.proofs.Common.{◌≡◌, ℕ, List, [], ◌∷◌, map, Option, Some, None, refl, sym, ap, ◌∙◌, subst}
use Rattle.std.specs.Prelude.{All, not, nat_eq, slice_get, unwrap_or}
use Rattle.std.specs.List.{enumerate_from}
use Rattle.std.specs.Option.{option_map, option_or, option_and_then, option_eq}
use Rattle.board_graph.specs.Loops.{is_above, is_on_supply_loop}
use Rattle.std.proofs.lemmas.List.Elements.{All-map}
use Rattle.std.proofs.lemmas.Option.{slice_get-map}
use Rattle.board.specs.declared.board.Board.{Board}
use Rattle.board.specs.declared.part.Part.{Part}
use Rattle.board.specs.declared.rail.Rail.{Rail}
use Rattle.board.specs.Desc.{described_field}
use Rattle.board.specs.Valid.{IsSoundBoard}
use Rattle.board_graph.specs.declared.graph.Graph.{Graph}
use Rattle.board_graph.specs.Order.{IsOrder}
use Rattle.board_checks.specs.Checks.{gap_fault, suspend_fault, load_fault}
use Rattle.constraints.specs.Coupling.{stated_spread}
use Rattle.dts_tree.specs.Tree.{Node}
use Rattle.dts_nodes.specs.Firsts.{first_of}
use Rattle.board_nodes.specs.declared.rail_node.RailNode.{RailNode}
use Rattle.board_nodes.specs.Chips.{chip_count}
use Rattle.board_nodes.specs.Rails.{Found, seen, rails_in}
use Rattle.board_nodes.specs.Sound.{IsSoundRail, field_in}
use Rattle.board_draft.specs.declared.fault.BoardFault.TheVariants.{NoSupply, SupplyLoop, NoCouple, OneWay, NoSpread, SpreadsDiffer, CoupledSupplier}
use Rattle.board_draft.specs.Faults.{rail_faults, at_rail, at_pair, group_fault, link_fault, board_fault}
use Rattle.board_draft.specs.Fault.{of_check}
use Rattle.board_draft.specs.Links.{graph_of, lacks_supply, names_badly, have_same, group_named, lacks_spread, spread_of}
use Rattle.board_draft.specs.Sketch.{rail_at, sketch_with, sketch_of, trimmed, IsBoardOf}
use Rattle.board_draft.specs.Inside.Nodes.{AreNodesOf}
use Rattle.board_draft.proofs.Walks.{map_map}
use Rattle.board_draft.proofs.SoundBoard.{sketch_is_sound}
use Rattle.board_draft.proofs.SoundChecks.{gap_fault-trimmed, suspend_fault-trimmed, load_fault-trimmed}
use Rattle.board_draft.proofs.SoundLists.{none-option_or}
use Rattle.board_draft.proofs.SoundTrimmed.{trimmed_is_sound}

-- up to the first
pub skip : {A : Type 0} (a : Option A) (rest : List (Option A)) (o : Option A) → a ≡ None → first_of rest ≡ o → first_of (a ∷ rest) ≡ o
skip a rest o none later = ap (λ x. option_or x (first_of rest)) none ∙ later

pub here : {A : Type 0} (a : Option A) (rest : List (Option A)) (told : A) → a ≡ Some told → first_of (a ∷ rest) ≡ Some told
here a rest told is = ap (λ x. option_or x (first_of rest)) is

-- a field of a rail, by its description
field_same : (rails : List RailNode) (r : ℕ) (part : Part) → option_and_then (λ (f : Found). described_field part f.desc) (slice_get (map seen rails) r) ≡ field_in (map (λ (rail : RailNode). rail.desc) rails) r part
field_same rails r part =
    ap (option_and_then (λ (f : Found). described_field part f.desc)) (slice_get-map seen rails r)
    ∙ (elim (slice_get rails r) as (λ o. option_and_then (λ (f : Found). described_field part f.desc) (option_map seen o) ≡ option_and_then (described_field part) (option_map (λ (rail : RailNode). rail.desc) o)) [ None ↦ refl | Some rail ↦ refl ])
    ∙ ap (option_and_then (described_field part)) (sym (slice_get-map (λ (rail : RailNode). rail.desc) rails r))

-- a board that is the tree's, whose parts are good, is sound
pub sound_board : (nodes : List Node) (chips : ℕ) (rails : List RailNode) (board : Board) → AreNodesOf nodes chips rails → link_fault nodes (rails_in nodes) ≡ None
    → IsOrder (graph_of nodes (rails_in nodes)) board.order → IsBoardOf nodes board → IsSoundBoard board
sound_board nodes chips rails board are none order is =
    let found = rails_in nodes in
    let graph = graph_of nodes found in
    let first = none-option_or (rail_faults nodes found) _ none in
    let second = none-option_or (at_rail found (λ r rail. lacks_supply nodes found rail) NoSupply) _ first.1 in
    let third = none-option_or (at_rail found (λ r rail. is_on_supply_loop graph r) SupplyLoop) _ second.1 in
    let fourth = none-option_or (at_rail found (names_badly nodes found) NoCouple) _ third.1 in
    let groups = none-option_or (group_fault nodes found) _ fourth.1 in
    let one_way = none-option_or (at_pair nodes found (λ a b. not (have_same (group_named nodes found a) (group_named nodes found b))) OneWay) _ groups.0 in
    let spreads = none-option_or (at_rail found (λ r rail. lacks_spread nodes rail) NoSpread) _ one_way.1 in
    let differ = none-option_or (at_pair nodes found (λ a b. not (option_eq nat_eq (spread_of nodes found a) (spread_of nodes found b))) SpreadsDiffer) _ spreads.1 in
    let supplier = none-option_or (at_pair nodes found (λ a b. is_above graph b a) CoupledSupplier) _ differ.1 in
    let seen_sound : All (IsSoundRail chips) (map seen rails) = All-map (IsSoundRail chips) seen rails are.sound in
    let all : All (IsSoundRail (chip_count nodes)) found = subst (λ (n : ℕ). All (IsSoundRail n) found) are.chips_are (subst (λ (fs : List Found). All (IsSoundRail chips) fs) are.rails_are seen_sound) in
    let field : (r : ℕ) (part : Part) → option_and_then (λ (f : Found). described_field part f.desc) (slice_get found r) ≡ field_in (map (λ (rail : RailNode). rail.desc) rails) r part = λ r part.
    ap (λ (fs : List Found). option_and_then (λ (f : Found). described_field part f.desc) (slice_get fs r)) (sym are.rails_are) ∙ field_same rails r part in
    let sound =
    sketch_is_sound nodes board.order are.none first.0 one_way.0 supplier.0
    (λ k d within. (all k d within).desc)
    (λ k d within. (all k d within).suspend_selector)
    (λ k d within. (all k d within).fixed)
    (λ r s part other f g differ first second. are.apart r s part other f g differ (sym (field r part) ∙ first) (sym (field s other) ∙ second))
    order in
    trimmed_is_sound board (subst IsSoundBoard (sym (ap (λ (b : Board). record b { order = board.order }) is)) sound)

-- the checks of a board that is the tree's are those of the tree
pub checks_are : (nodes : List Node) (board : Board) → IsBoardOf nodes board → board_fault board ≡ board_fault (sketch_of nodes)
checks_are nodes board is =
    let gaps : gap_fault board ≡ gap_fault (sketch_of nodes) = sym (gap_fault-trimmed board) ∙ ap gap_fault is in
    let sleeps : suspend_fault board ≡ suspend_fault (sketch_of nodes) = sym (suspend_fault-trimmed board) ∙ ap suspend_fault is in
    let loads : load_fault board ≡ load_fault (sketch_of nodes) = sym (load_fault-trimmed board) ∙ ap load_fault is in
    ap (λ g. first_of (option_map of_check g ∷ option_map of_check (suspend_fault board) ∷ option_map of_check (load_fault board) ∷ [])) gaps
    ∙ ap (λ s. first_of (option_map of_check (gap_fault (sketch_of nodes)) ∷ option_map of_check s ∷ option_map of_check (load_fault board) ∷ [])) sleeps
    ∙ ap (λ l. first_of (option_map of_check (gap_fault (sketch_of nodes)) ∷ option_map of_check (suspend_fault (sketch_of nodes)) ∷ option_map of_check l ∷ [])) loads

-- the lists of a board that are the tree's
pub is_board_of : (nodes : List Node) (chips : ℕ) (nodes_of : List RailNode) (rails : List Rail) (spread : List ℕ) (stated : List (Option ℕ)) (graph : Graph) (order : List ℕ)
    → map seen nodes_of ≡ rails_in nodes → chips ≡ chip_count nodes
    → map trimmed rails ≡ map (λ (rail : ℕ × Found). rail_at nodes (map seen nodes_of) rail.0 rail.1) (enumerate_from 0 (map seen nodes_of))
    → spread ≡ map (λ s. unwrap_or s 0) stated → stated ≡ map (λ (rail : Found). stated_spread nodes rail.node) (map seen nodes_of)
    → graph ≡ graph_of nodes (map seen nodes_of)
    → IsBoardOf nodes (record { rails = rails; spread = spread; chips = chips; graph = graph; order = order })
is_board_of nodes chips nodes_of rails spread stated graph order same count built spreads states hangs =
    let spread_is : spread ≡ map (λ (rail : Found). unwrap_or (stated_spread nodes rail.node) 0) (map seen nodes_of) =
    spreads ∙ ap (map (λ s. unwrap_or s 0)) states ∙ map_map (λ s. unwrap_or s 0) (λ (rail : Found). stated_spread nodes rail.node) (map seen nodes_of) in
    subst (λ (found : List Found). record { rails = map trimmed rails; spread = spread; chips = chips; graph = graph; order = [] } ≡ sketch_with nodes found) same
    (rw (built, spread_is, count, hangs) refl)
