use Rattle.script.proofs.Named.{Through}
use Rattle.script.proofs.rail_names.names_of.Given as goal

abbrev pub invariant-loop-at : goal.invariant-loop-at
invariant-loop-at l = Through l.board.rails l.at l.names.entries
