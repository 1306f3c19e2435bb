-- The board of a tree.
use Rattle.std.specs.Prelude.{ℕ, ◌≡◌, List, [], map, unwrap_or}
use Rattle.std.specs.List.{enumerate_from}
use Rattle.std.specs.Option.{option_map}
use Rattle.board.specs.declared.board.Board.{Board}
use Rattle.board.specs.declared.rail.Rail.{Rail}
use Rattle.dts_tree.specs.Tree.{Node}
use Rattle.constraints.specs.Bounds.{least_bound}
use Rattle.constraints.specs.Node.{constraints_at}
use Rattle.constraints.specs.Coupling.{stated_spread}
use Rattle.board_nodes.specs.Chips.{chip_count}
use Rattle.board_nodes.specs.Rails.{Found, rails_in}
use Rattle.board_draft.specs.Links.{supply_of, group_of, is_changeable, graph_of}

-- rail r of the board. The one value of a rail that can't change is its bound; that of a chip's rail without bounds
-- isn't known before its registers are, and stands as 0.
abbrev pub rail_at : List Node → List Found → ℕ → Found → Rail
rail_at nodes rails r found = record {
  name = record { bytes = found.name; spare = [] };
  desc = found.desc;
  limits = constraints_at nodes found.node found.desc;
  supply = option_map (λ s. record { 0 = s }) (supply_of nodes rails found);
  group = group_of nodes rails r found;
  changeable = is_changeable nodes found;
  kept_uv = least_bound nodes found.node;
}

-- the board of a tree with these rails, but for its order; a group's spread stands at the number of its least rail
abbrev pub sketch_with : List Node → List Found → Board
sketch_with nodes rails = record {
  rails = map (λ rail. rail_at nodes rails rail.0 rail.1) (enumerate_from 0 rails);
  spread = map (λ rail. unwrap_or (stated_spread nodes rail.node) 0) rails;
  chips = chip_count nodes;
  graph = graph_of nodes rails;
  order = [];
}

-- the board of a tree, but for its order
abbrev pub sketch_of : List Node → Board
sketch_of nodes = sketch_with nodes (rails_in nodes)

-- a rail, without the bytes that its name doesn't use
abbrev pub trimmed : Rail → Rail
trimmed rail = record rail { name = record { bytes = rail.name.bytes; spare = [] } }

-- the board is that of the tree; its order is told by its graph
abbrev pub IsBoardOf : List Node → Board → Type 0
IsBoardOf nodes board = record board { rails = map trimmed board.rails; order = [] } ≡ sketch_of nodes
