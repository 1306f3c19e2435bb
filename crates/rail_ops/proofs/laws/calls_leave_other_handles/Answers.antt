use Rattle.rail_ops.proofs.OtherHandles.{others_stay}
use Rattle.rail_ops.proofs.laws.calls_leave_other_handles.Goals as goal

pub returns : goal.returns
returns c board plain worker other call stop inv is apart = others_stay board plain worker other apart inv.kept.apart call is stop
