use Rattle.std.proofs.Common.{◌+◌, ◌≤◌, subst, sym, arith}
use Rattle.linear_range.specs.LinearRange.{IsSound}
use Rattle.linear_range.proofs.Counts.{count_more, count_fits, length-values-nil}
use Rattle.linear_range.proofs.range_table.RangeTable.count.Goals as goal

pub loop-range-init : goal.loop-range-init
loop-range-init g c = record { counted = length-values-nil; few = omega arith }

pub overflow_add-count : goal.overflow_add-count
overflow_add-count g c =
    let sound = subst (λ rs. IsSound g.row.N rs) (sym c.as_slice-range-items.ensures.value) c.self.invariant in
    let fits : c.loop-range.count + c.count-count.result ≤ 65536 = count_fits _ _ _ _ _ _ sound c.loop-range-test.true c.loop-range.invariant c.count-count.ensures.value c.count-count.ensures.within in
    omega arith

pub loop-range-preserved : goal.loop-range-preserved
loop-range-preserved g c =
    let sound = subst (λ rs. IsSound g.row.N rs) (sym c.as_slice-range-items.ensures.value) c.self.invariant in
    count_more _ _ _ _ _ _ sound c.loop-range-test.true c.loop-range.invariant c.count-count.ensures.value c.count-count.ensures.within
