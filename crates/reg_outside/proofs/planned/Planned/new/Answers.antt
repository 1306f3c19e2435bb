use Rattle.std.proofs.Common.{ap, sym}
use Rattle.reg_outside.specs.Plan.{refused_of}
use Rattle.reg_outside.proofs.planned.Planned.new.Goals as goal

pub invariant_of-result : goal.invariant_of-result
unfolding refused_of
invariant_of-result g c = (sym (ap refused_of c.new.ensures.plan), c.new.ensures.small)
