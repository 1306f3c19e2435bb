use Rattle.reg_outside.proofs.Plans.{count_of-inner}
use Rattle.reg_outside.proofs.laws.count_is_inner.Goals as goal

pub returns : goal.returns
returns g c = count_of-inner g.W.Wire.faults
