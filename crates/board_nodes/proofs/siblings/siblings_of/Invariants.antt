use Rattle.std.proofs.Common.{◌≤◌, length}
use Rattle.board_nodes.specs.Inside.Siblings.{IsSiblings}
use Rattle.board_nodes.proofs.siblings.siblings_of.Given as goal

abbrev pub invariant-loop-node : goal.invariant-loop-node
invariant-loop-node l = record {
  high : l.node ≤ length l.tree;
  siblings : IsSiblings l.tree l.first.items l.next.items l.node;
}

abbrev pub decreases-loop-node : goal.decreases-loop-node
decreases-loop-node l = l.node
