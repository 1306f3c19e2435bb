use Rattle.std.proofs.Common.{◌≡◌}
use Rattle.linear_range.specs.Values.{value_of}
use Rattle.linear_range.proofs.range_table.RangeTable.value.Given as goal

-- no range so far has the selector
abbrev pub invariant-loop-range : goal.invariant-loop-range
invariant-loop-range g l = value_of l.self l.sel ≡ value_of l.range-iterator.rest.now l.sel
