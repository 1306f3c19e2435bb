use Rattle.std.proofs.Common.{◌≡◌, take}
use Rattle.std.specs.List.{enumerate_from}
use Rattle.board_graph.specs.Inside.Lists.{turned}
use Rattle.board_graph.proofs.order.members.Given as goal

abbrev pub invariant-loop-rail : goal.invariant-loop-rail
invariant-loop-rail l = l.pairs ≡ turned (enumerate_from 0 (take l.rail l.leaders))
