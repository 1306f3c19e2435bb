use Rattle.std.proofs.Common.{arith}
use Rattle.use_counts.proofs.Sums.{kept-enables-le, kept-drawn-le}
use Rattle.use_counts.proofs.rail_use.RailUse.put.Goals as goal

pub overflow_add-self : goal.overflow_add-self
overflow_add-self c = omega (arith, kept-enables-le c.self.invariant, c.from-2.ensures)

pub overflow_add-self-2 : goal.overflow_add-self-2
overflow_add-self-2 c = omega (arith, kept-drawn-le c.self.invariant, c.drawn-2.ensures.few)
