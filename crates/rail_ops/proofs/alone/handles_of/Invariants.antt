use Rattle.std.proofs.Common.{◌≡◌, take}
use Rattle.rail_ops.specs.Inside.Alone.{handles_in}
use Rattle.rail_ops.proofs.alone.handles_of.Given as goal

abbrev pub invariant-loop-state : goal.invariant-loop-state
invariant-loop-state l = record {
  number : l.id ≡ l.state-index;
  handles : l.handles ≡ handles_in (take l.state-index l.states);
}
