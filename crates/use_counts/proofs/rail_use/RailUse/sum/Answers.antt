use Rattle.std.proofs.Common.{arith}
use Rattle.use_counts.proofs.Sums.{kept-drawn-le}
use Rattle.use_counts.proofs.rail_use.RailUse.sum.Goals as goal

pub overflow_add-result : goal.overflow_add-result
overflow_add-result c = omega (arith, kept-drawn-le c.self.invariant, c.from.ensures)
