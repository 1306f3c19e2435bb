use Rattle.std.proofs.Common.{◌≡◌, take}
use Rattle.board_graph.specs.Inside.Lists.{turned}
use Rattle.board_graph.proofs.lists.turned.Given as goal

abbrev pub invariant-loop-pair : goal.invariant-loop-pair
invariant-loop-pair l = l.others ≡ turned (take l.pair-index l.pairs)
