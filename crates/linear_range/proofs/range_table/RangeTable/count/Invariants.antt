use Rattle.linear_range.proofs.Counts.{IsCounted}
use Rattle.linear_range.proofs.range_table.RangeTable.count.Given as goal

abbrev pub invariant-loop-range : goal.invariant-loop-range
invariant-loop-range g l = IsCounted l.range-items l.range-index l.count
