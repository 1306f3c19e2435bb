-- What holds of the rails that were found, and of what their nodes say.
use Rattle.std.specs.Prelude.{ℕ, ◌≡◌, List, [], ◌∷◌, map, Option, None, All}
use Rattle.board_graph.specs.Order.{IsOrder}
use Rattle.constraints.specs.Coupling.{stated_spread}
use Rattle.constraints.specs.Node.{constraints_at}
use Rattle.dts_tree.specs.Tree.{Node}
use Rattle.dts_nodes.specs.Firsts.{first_of}
use Rattle.board_nodes.specs.declared.rail_node.RailNode.{RailNode}
use Rattle.board_nodes.specs.Chips.{chip_count}
use Rattle.board_nodes.specs.Faults.{nodes_fault}
use Rattle.board_nodes.specs.Rails.{seen, rails_in}
use Rattle.board_nodes.specs.Sound.{IsSoundRail, NoneShare}
use Rattle.board_draft.specs.declared.fault.BoardFault.{BoardFault}
use Rattle.board_draft.specs.declared.parts.Parts.{Parts}
use Rattle.board_draft.specs.Faults.{link_fault, board_fault}
use Rattle.board_draft.specs.Links.{graph_of}
use Rattle.board_draft.specs.Sketch.{sketch_of}

-- the rails are those of the tree, which are sound and share no bit
pub record AreNodesOf (nodes : List Node) (chips : ℕ) (rails : List RailNode) : Type 0 where
  pub none : nodes_fault nodes ≡ None
  pub rails_are : map seen rails ≡ rails_in nodes
  pub chips_are : chips ≡ chip_count nodes
  pub sound : All (λ rail. IsSoundRail chips (seen rail)) rails
  pub apart : NoneShare (map (λ rail. rail.desc) rails)

-- the parts are what the nodes of the rails say, and nothing is wrong with them
pub record ArePartsOf (nodes : List Node) (rails : List RailNode) (parts : Parts) : Type 0 where
  pub none : link_fault nodes (map seen rails) ≡ None
  pub limits : parts.limits ≡ map (λ rail. constraints_at nodes rail.node rail.desc) (map seen rails)
  pub graph : parts.graph ≡ graph_of nodes (map seen rails)
  pub spreads : parts.spreads ≡ map (λ rail. stated_spread nodes rail.node) (map seen rails)
  pub order : IsOrder (graph_of nodes (map seen rails)) parts.order

-- what is wrong with a tree whose rails were found
abbrev pub later_fault : List Node → Option BoardFault
later_fault nodes = first_of (link_fault nodes (rails_in nodes) ∷ board_fault (sketch_of nodes) ∷ [])
