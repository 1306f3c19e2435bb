-- Why a tree makes no board: the first of these that holds. Each is looked for over all rails before the next one.
use Rattle.std.specs.Prelude.{ℕ, Bool, not, nat_eq, ◌&&◌, List, [], ◌∷◌, map, find, length, Option}
use Rattle.std.specs.List.{enumerate_from}
use Rattle.std.specs.Option.{is_none, option_map, option_eq}
use Rattle.board_graph.specs.Loops.{is_above, is_on_supply_loop, is_on_block_loop}
use Rattle.dts_tree.specs.Tree.{Node}
use Rattle.dts_nodes.specs.Firsts.{first_of, when}
use Rattle.dts_nodes.specs.Forms.{is_wrong}
use Rattle.constraints.specs.declared.prop.Prop.TheVariants.{Supply}
use Rattle.constraints.specs.Faults.{form_fault, value_fault}
use Rattle.board_nodes.specs.Faults.{nodes_fault}
use Rattle.board_nodes.specs.Rails.{Found, rails_in}
use Rattle.board_checks.specs.Checks.{gap_fault, suspend_fault, load_fault, pairs_of}
use Rattle.board_draft.specs.declared.fault.BoardFault.{BoardFault}
use Rattle.board_draft.specs.declared.fault.BoardFault.TheVariants.{BadCells, NoSupply, SupplyLoop, NoCouple, OneWay, NoSpread, SpreadsDiffer, CoupledSupplier, GroupLoop}
use Rattle.board_draft.specs.Fault.{of_nodes, of_rail, of_check}
use Rattle.board_draft.specs.Links.{supply_form, lacks_supply, names_badly, group_named, names, have_same, spread_of, lacks_spread, graph_of}
use Rattle.board.specs.declared.board.Board.{Board}
use Rattle.board_draft.specs.Sketch.{sketch_of}

-- a rail that no chip's node makes is a fixed one
abbrev pub is_fixed_rail : Found → Bool
is_fixed_rail found = is_none found.chip_node

-- what is wrong with the properties of rail r: first their forms, that of the supply last, and then what they say
abbrev pub rail_fault : List Node → ℕ → Found → Option BoardFault
rail_fault nodes r found =
    first_of (
    option_map of_rail (form_fault nodes found.node r found.desc)
    ∷ when (is_wrong (supply_form nodes found)) (BadCells r Supply)
    ∷ option_map of_rail (value_fault nodes found.node r found.desc (is_fixed_rail found))
    ∷ [])

-- the fault of the first rail that has one; all of the rail's own before the next rail's
abbrev pub rail_faults : List Node → List Found → Option BoardFault
rail_faults nodes rails = first_of (map (λ rail. rail_fault nodes rail.0 rail.1) (enumerate_from 0 rails))

-- the fault of the first rail for which a test holds
abbrev pub at_rail : List Found → (ℕ → Found → Bool) → (ℕ → BoardFault) → Option BoardFault
at_rail rails test fault = option_map (λ rail. fault rail.0) (find (λ rail. test rail.0 rail.1) (enumerate_from 0 rails))

-- the fault of the first pair of which the first rail names the second and a test holds
abbrev pub at_pair : List Node → List Found → (ℕ → ℕ → Bool) → (ℕ → ℕ → BoardFault) → Option BoardFault
at_pair nodes rails test fault =
    option_map (λ pair. fault pair.0 pair.1) (find (λ pair. names nodes rails pair.0 pair.1 && test pair.0 pair.1) (pairs_of (length rails)))

-- what is wrong with rails that are coupled
abbrev pub group_fault : List Node → List Found → Option BoardFault
group_fault nodes rails =
    first_of (
    at_pair nodes rails (λ a b. not (have_same (group_named nodes rails a) (group_named nodes rails b))) OneWay
    ∷ at_rail rails (λ r rail. lacks_spread nodes rail) NoSpread
    ∷ at_pair nodes rails (λ a b. not (option_eq nat_eq (spread_of nodes rails a) (spread_of nodes rails b))) SpreadsDiffer
    ∷ at_pair nodes rails (λ a b. is_above (graph_of nodes rails) b a) CoupledSupplier
    ∷ [])

-- what is wrong with the properties of rails, or with the links between them
abbrev pub link_fault : List Node → List Found → Option BoardFault
link_fault nodes rails =
    first_of (
    rail_faults nodes rails
    ∷ at_rail rails (λ r rail. lacks_supply nodes rails rail) NoSupply
    ∷ at_rail rails (λ r rail. is_on_supply_loop (graph_of nodes rails) r) SupplyLoop
    ∷ at_rail rails (names_badly nodes rails) NoCouple
    ∷ group_fault nodes rails
    ∷ at_rail rails (λ r rail. is_on_block_loop (graph_of nodes rails) r) GroupLoop
    ∷ [])

-- what a board can't hold
abbrev pub board_fault : Board → Option BoardFault
board_fault board =
    first_of (option_map of_check (gap_fault board) ∷ option_map of_check (suspend_fault board) ∷ option_map of_check (load_fault board) ∷ [])

-- why a tree makes no board
abbrev pub first_fault : List Node → Option BoardFault
first_fault nodes =
    first_of (
    option_map of_nodes (nodes_fault nodes)
    ∷ link_fault nodes (rails_in nodes)
    ∷ board_fault (sketch_of nodes)
    ∷ [])
