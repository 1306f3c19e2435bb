use Rattle.std.proofs.Common.{◌≡◌, replicate}
use Rattle.rail_ops.proofs.alone.zeros.Given as goal

abbrev pub invariant-loop-rail : goal.invariant-loop-rail
invariant-loop-rail l = l.votes.items ≡ replicate l._rail 0
