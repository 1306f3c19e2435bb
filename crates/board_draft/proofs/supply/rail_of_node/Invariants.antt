use Rattle.std.proofs.Common.{ℕ, map, ◌==◌}
use Rattle.std.specs.List.{enumerate_from}
use Rattle.board_nodes.specs.Rails.{Found, seen}
use Rattle.board_draft.proofs.Walks.{NoneBefore}
use Rattle.board_draft.proofs.supply.rail_of_node.Given as goal

abbrev pub invariant-loop-r : goal.invariant-loop-r
invariant-loop-r l = NoneBefore (λ (rail : ℕ × Found). rail.1.node == l.node) (enumerate_from 0 (map seen l.rails)) l.r
