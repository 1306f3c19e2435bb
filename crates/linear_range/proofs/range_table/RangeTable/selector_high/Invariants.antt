use Rattle.std.proofs.Common.{leb, take}
use Rattle.std.specs.Option.{option_map}
use Rattle.linear_range.specs.Pick.{pair_of}
use Rattle.linear_range.proofs.Picks.{BestOf, upwards}
use Rattle.linear_range.proofs.Tables.{HasValue}
use Rattle.linear_range.proofs.range_table.RangeTable.selector_high.Given as goal

-- the pick of the ranges so far
abbrev pub invariant-loop-range : goal.invariant-loop-range
invariant-loop-range g l =
    BestOf (λ uv. leb l.uv uv) upwards (HasValue (take l.range-index l.range-items)) (option_map pair_of l.best)
