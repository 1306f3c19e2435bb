use Rattle.std.proofs.Common.{◌<◌, All, length, take}
use Rattle.plain_board.specs.Handles.{Entry}
use Rattle.rail_ops.specs.Inside.Alone.{AreBooks, with_rows}
use Rattle.rail_ops.proofs.alone.with_handles.Given as goal

abbrev pub invariant-loop-on : goal.invariant-loop-on
invariant-loop-on l = record {
  books : AreBooks (length l.fn.states.items) (with_rows l.fn.states.items (take l.on-index l.handles)) l.states.items;
  workers : All (λ (entry : Entry). entry.1.worker < 65536) (take l.on-index l.handles);
}
