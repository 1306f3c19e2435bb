use Rattle.std.proofs.Common.{length, take}
use Rattle.rail_ops.specs.Inside.Alone.{AreVotes}
use Rattle.rail_ops.proofs.alone.votes.Given as goal

abbrev pub invariant-loop-rail : goal.invariant-loop-rail
invariant-loop-rail l = AreVotes (length l.rail-items) (take l.rail-index l.rail-items) l.regs l.votes.items
