use Rattle.std.proofs.Common.{◌≡◌}
use Rattle.board_graph.specs.Inside.Above.{marked}
use Rattle.board_graph.proofs.sets.marked.Given as goal

abbrev pub invariant-loop-number : goal.invariant-loop-number
invariant-loop-number l = l.numbers ≡ marked l.marks l.number
