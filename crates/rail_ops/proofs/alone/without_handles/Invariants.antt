use Rattle.std.proofs.Common.{length}
use Rattle.rail_ops.specs.Inside.Alone.{AreBooks, blank}
use Rattle.rail_ops.proofs.alone.without_handles.Given as goal

abbrev pub invariant-loop-list : goal.invariant-loop-list
invariant-loop-list l = AreBooks (length l.yielded) (blank l.holds l.votes l.yielded l.suspended) l.states.items
