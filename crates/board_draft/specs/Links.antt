-- The supplies and the coupled rails that the nodes of rails name. The rails are those of the tree, in the board's order.
use Rattle.std.specs.Prelude.{ℕ, Bool, false, not, ◌==◌, ◌&&◌, ◌||◌, min, List, [], ◌∷◌, ◌++◌, map, find, fold, slice_get, Option, codes, if◌then◌else◌}
use Rattle.std.specs.List.{enumerate_from, filter_map, list_any, list_all}
use Rattle.std.specs.Option.{is_some, is_none, option_map, option_map_or, option_and_then}
use Rattle.board_graph.specs.declared.graph.Graph.{Graph}
use Rattle.board_graph.specs.Order.{is_taken}
use Rattle.board.specs.Valid.{is_span}
use Rattle.dts_tree.specs.declared.value.Cell.{Cell}
use Rattle.dts_tree.specs.Tree.{Node}
use Rattle.dts_tree.specs.Look.{target_of}
use Rattle.dts_nodes.specs.declared.form.Form.{Form}
use Rattle.dts_nodes.specs.declared.form.Form.TheVariants.{Absent}
use Rattle.dts_nodes.specs.Forms.{cell_at, told_by}
use Rattle.constraints.specs.Bounds.{bounds_at}
use Rattle.constraints.specs.Coupling.{couples_at, stated_spread}
use Rattle.constraints.specs.Sleeps.{has}
use Rattle.board_nodes.specs.Rails.{Found}

-- the name of the property that names a rail's supply
abbrev pub supply_name : Found → List ℕ
supply_name rail = rail.supply ++ codes "-supply"

-- what a rail's node says of the supply, else what the node of its chip says
abbrev pub supply_form : List Node → Found → Form (Cell ℕ)
supply_form nodes rail =
    if has nodes rail.node (supply_name rail) then cell_at nodes rail.node (supply_name rail)
    else option_map_or (λ chip. cell_at nodes chip (supply_name rail)) rail.chip_node Absent

-- the rail of a node; of two with one node the first
abbrev pub rail_of_node : List Found → ℕ → Option ℕ
rail_of_node rails node = option_map (λ rail. rail.0) (find (λ rail. rail.1.node == node) (enumerate_from 0 rails))

-- the rail that a cell stands for
abbrev pub rail_of_cell : List Node → List Found → Cell ℕ → Option ℕ
rail_of_cell nodes rails cell = option_and_then (rail_of_node rails) (target_of nodes cell)

-- the rail that supplies a rail
abbrev pub supply_of : List Node → List Found → Found → Option ℕ
supply_of nodes rails rail = option_and_then (rail_of_cell nodes rails) (told_by (supply_form nodes rail))

-- a supply is named, which is no rail
abbrev pub lacks_supply : List Node → List Found → Found → Bool
lacks_supply nodes rails rail = is_some (told_by (supply_form nodes rail)) && is_none (supply_of nodes rails rail)

-- what a rail names as coupled, each a rail or none
abbrev pub couples_of : List Node → List Found → Found → List (Option ℕ)
couples_of nodes rails rail = map (rail_of_cell nodes rails) (couples_at nodes rail.node)

-- the rails that a rail names as coupled
abbrev pub named_by : List Node → List Found → Found → List ℕ
named_by nodes rails rail = filter_map (λ named. named) (couples_of nodes rails rail)

-- a number comes twice
abbrev pub has_twice : List ℕ → Bool
has_twice [] = false
has_twice (n ∷ numbers) = is_taken numbers n || has_twice numbers

-- rail r names what is no rail, or itself, or a rail twice
abbrev pub names_badly : List Node → List Found → ℕ → Found → Bool
names_badly nodes rails r rail =
    let named = named_by nodes rails rail in
    list_any is_none (couples_of nodes rails rail) || is_taken named r || has_twice named

-- a rail and those that it names
abbrev pub group_named : List Node → List Found → ℕ → List ℕ
group_named nodes rails r = r ∷ option_map_or (named_by nodes rails) (slice_get rails r) []

-- the first rail names the second
abbrev pub names : List Node → List Found → ℕ → ℕ → Bool
names nodes rails a b = is_taken (option_map_or (named_by nodes rails) (slice_get rails a) []) b

-- two lists have the same numbers
abbrev pub have_same : List ℕ → List ℕ → Bool
have_same first second = list_all (is_taken second) first && list_all (is_taken first) second

-- the spread that a rail states
abbrev pub spread_of : List Node → List Found → ℕ → Option ℕ
spread_of nodes rails r = option_and_then (λ rail. stated_spread nodes rail.node) (slice_get rails r)

-- a rail names others, and states no spread
abbrev pub lacks_spread : List Node → Found → Bool
lacks_spread nodes rail = is_some (slice_get (couples_at nodes rail.node) 0) && is_none (stated_spread nodes rail.node)

-- the number of a rail's group: that of its least rail
abbrev pub group_of : List Node → List Found → ℕ → Found → ℕ
group_of nodes rails r rail = fold min r (named_by nodes rails rail)

-- the bounds of the rail leave it room
abbrev pub is_changeable : List Node → Found → Bool
is_changeable nodes rail = is_span (bounds_at nodes rail.node)

-- a rail has a dropout, and its supply is changeable
abbrev pub is_linked : List Node → List Found → Found → Bool
is_linked nodes rails rail =
    not (rail.desc.dropout == 0)
    && option_map_or (λ s. option_map_or (is_changeable nodes) (slice_get rails s) false) (supply_of nodes rails rail) false

-- how the rails hang together
abbrev pub graph_of : List Node → List Found → Graph
graph_of nodes rails = record {
  supply = map (supply_of nodes rails) rails;
  group = map (λ rail. group_of nodes rails rail.0 rail.1) (enumerate_from 0 rails);
  link = map (is_linked nodes rails) rails;
}
