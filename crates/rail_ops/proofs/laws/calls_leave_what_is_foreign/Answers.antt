use Rattle.rail_ops.proofs.ForeignCalls.{foreign_stays}
use Rattle.rail_ops.proofs.laws.calls_leave_what_is_foreign.Goals as goal

pub returns : goal.returns
returns c board plain worker call stop valid untied no_loads hold inv is = foreign_stays board valid untied no_loads plain hold inv.kept.regs worker call is stop
