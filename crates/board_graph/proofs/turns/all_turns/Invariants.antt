use Rattle.board_graph.specs.Inside.Turns.{left_in, AreTurns}
use Rattle.board_graph.proofs.turns.all_turns.Given as goal

abbrev pub invariant-loop-turns : goal.invariant-loop-turns
invariant-loop-turns l = AreTurns l.leaders l.feeds.pairs l.turns

abbrev pub decreases-loop-turns : goal.decreases-loop-turns
decreases-loop-turns l = left_in l.leaders l.turns.taken
