use Rattle.std.proofs.Common.{refl}
use Rattle.board.proofs.rail.Rail.field.Goals as goal

pub returns-in-SuspendEnable : goal.returns-in-SuspendEnable
returns-in-SuspendEnable c = rw c.in-SuspendEnable.is refl
