use Rattle.std.proofs.Common.{◌<◌, All, take}
use Rattle.rail_ops.proofs.opening.have_numbers.Given as goal

abbrev pub invariant-loop-row : goal.invariant-loop-row
invariant-loop-row l = All (λ row. row.worker < 65536) (take l.row-index l.rows)
