use Rattle.std.proofs.Common.{◌≡◌, [], replicate, take}
use Rattle.board_graph.specs.Inside.Lists.{AreLists}
use Rattle.board_graph.proofs.lists.lists.Given as goal

abbrev pub invariant-loop : goal.invariant-loop
invariant-loop l = l.lists.items ≡ replicate l.counter []

abbrev pub invariant-loop-pair : goal.invariant-loop-pair
invariant-loop-pair l = AreLists l.count (take l.pair-index l.pairs) l.lists.items
