use Rattle.std.proofs.Common.{◌∙◌, sym}
use Rattle.linear_range.proofs.Faults.{first_overlap_found, first_overlap_later}
use Rattle.linear_range.proofs.table_fault.first_overlap.Goals as goal

pub returns-in-Some : goal.returns-in-Some
returns-in-Some c =
    sym (c.loop-first.invariant ∙ first_overlap_found _ _ _ _ c.loop-first-test.true c.in-Some.ensures)

pub loop-first-preserved : goal.loop-first-preserved
loop-first-preserved c =
    c.loop-first.invariant ∙ first_overlap_later _ _ _ c.loop-first-test.true c.in_default.ensures
