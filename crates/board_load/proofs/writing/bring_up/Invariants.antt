use Rattle.std.proofs.Common.{take}
use Rattle.reg_outside.specs.Bus.{told_by}
use Rattle.board_load.specs.BringUp.{TookAll}
use Rattle.board_load.proofs.writing.bring_up.Given as goal

-- so many of the writes were taken, and none more was tried
abbrev pub invariant-loop-write : goal.invariant-loop-write
invariant-loop-write g l =
    let tells = told_by g.W.Wire.accepted g.W.Wire.plan g.W.Wire.faults in
    TookAll (tells l.fn.wire) (tells l.wire) (take l.write-index l.loaded.writes)
