use Rattle.board_graph.specs.Inside.Above.{unmarked, AreMet}
use Rattle.board_graph.proofs.graph.Graph.supplies_met.Given as goal

abbrev pub invariant-loop-next : goal.invariant-loop-next
invariant-loop-next l = AreMet l.self l.r l.met l.next

abbrev pub decreases-loop-next : goal.decreases-loop-next
decreases-loop-next l = unmarked l.met
