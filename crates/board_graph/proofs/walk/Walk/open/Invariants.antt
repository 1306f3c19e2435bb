use Rattle.std.proofs.Common.{◌≡◌, ◌++◌, take}
use Rattle.board_graph.proofs.walk.Walk.open.Given as goal

abbrev pub invariant-loop-to : goal.invariant-loop-to
invariant-loop-to l = l.self ≡ record l.initial.self { pending = l.initial.self.pending ++ take l.to-index l.to-items }
