use Rattle.std.proofs.Common.{◌≡◌, [], take, flat_map, get_or}
use Rattle.board_graph.proofs.order.joined.Given as goal

abbrev pub invariant-loop-number : goal.invariant-loop-number
invariant-loop-number l = l.all ≡ flat_map (λ k. get_or l.lists k []) (take l.number-index l.numbers)
