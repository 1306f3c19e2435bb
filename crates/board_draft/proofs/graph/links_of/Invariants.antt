use Rattle.std.proofs.Common.{◌≡◌, ℕ, map, take}
use Rattle.std.specs.Prelude.{slice_get}
use Rattle.std.specs.List.{enumerate_from}
use Rattle.board_nodes.specs.declared.rail_node.RailNode.{RailNode}
use Rattle.board_draft.specs.Inside.Graph.{is_held_by}
use Rattle.board_draft.proofs.graph.links_of.Given as goal

abbrev pub invariant-loop-r : goal.invariant-loop-r
invariant-loop-r l = l.links.items ≡ map (λ (rail : ℕ × RailNode). is_held_by l.limits (slice_get l.supplies rail.0) rail.1.desc.dropout) (take l.r (enumerate_from 0 l.rails))
