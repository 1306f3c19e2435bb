use Rattle.linear_range.proofs.Faults.{sound_from_searches}
use Rattle.linear_range.proofs.range_table.RangeTable.new.Goals as goal

pub invariant_of-result : goal.invariant_of-result
invariant_of-result g c =
    rw c.in-Ok.ensures.0
    (sound_from_searches _ _ c.in-Ok.ensures.1 c.in_default-first_reversed.ensures
    c.in_default-first_too_high.ensures c.in_default-first_overlap.ensures)
