use Rattle.std.proofs.Common.{◌≡◌, take}
use Rattle.rail_ops.proofs.alone.copy_of.Given as goal

abbrev pub invariant-loop-event : goal.invariant-loop-event
invariant-loop-event l = l.copied ≡ take l.event-index l.events
