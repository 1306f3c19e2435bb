use Rattle.std.proofs.Common.{◌≡◌, drop}
use Rattle.linear_range.specs.RangeTable.{first_overlap}
use Rattle.linear_range.proofs.table_fault.first_overlap.Given as goal

-- no range so far has a selector in common with a later one
abbrev pub invariant-loop-first : goal.invariant-loop-first
invariant-loop-first l = first_overlap 0 l.ranges ≡ first_overlap l.first (drop l.first l.ranges)
