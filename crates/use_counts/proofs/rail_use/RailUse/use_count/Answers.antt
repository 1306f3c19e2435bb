use Rattle.std.proofs.Common.{arith, ◌≤◌, Bool, true, false}
use Rattle.std.specs.Int.{from_bool}
use Rattle.use_counts.proofs.Sums.{kept-enables-le}
use Rattle.use_counts.proofs.rail_use.RailUse.use_count.Goals as goal

hold-le : (held : Bool) → from_bool held ≤ 1
hold-le true = omega arith
hold-le false = omega arith

pub overflow_add-result : goal.overflow_add-result
overflow_add-result c =
    omega (arith, kept-enables-le c.self.invariant, c.from.ensures, hold-le)

pub overflow_add-result-2 : goal.overflow_add-result-2
overflow_add-result-2 c =
    omega (arith, kept-enables-le c.self.invariant, c.from.ensures, c.from-2.ensures, hold-le)
