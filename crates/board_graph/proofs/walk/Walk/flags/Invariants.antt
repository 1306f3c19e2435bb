use Rattle.std.proofs.Common.{◌≡◌, map, take}
use Rattle.board_graph.specs.Inside.Walk.{is_on_loop}
use Rattle.board_graph.proofs.walk.Walk.flags.Given as goal

abbrev pub invariant-loop-visit : goal.invariant-loop-visit
invariant-loop-visit l = l.flags ≡ map is_on_loop (take l.visit-index l.visit-items)
