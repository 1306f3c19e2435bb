use Rattle.std.proofs.Common.{◌≡◌, map, take}
use Rattle.board_graph.specs.Inside.Walk.{is_seen}
use Rattle.board_graph.proofs.walk.Walk.seen.Given as goal

abbrev pub invariant-loop-visit : goal.invariant-loop-visit
invariant-loop-visit l = l.seen ≡ map is_seen (take l.visit-index l.visit-items)
