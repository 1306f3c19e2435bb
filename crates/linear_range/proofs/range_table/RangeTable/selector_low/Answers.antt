use Rattle.std.proofs.Common.{ap, subst, sym, ◌∙◌}
use Rattle.linear_range.specs.LinearRange.{IsSound}
use Rattle.linear_range.specs.Values.{values, pick_low}
use Rattle.linear_range.proofs.Steps.{greater_more, greater_all}
use Rattle.linear_range.proofs.range_table.RangeTable.selector_low.Goals as goal

pub loop-range-preserved : goal.loop-range-preserved
loop-range-preserved g c =
    let sound = subst (λ rs. IsSound g.row.N rs) (sym c.as_slice-range-items.ensures.value) c.self.invariant in
    rw c.greater-best.ensures
    (greater_more _ _ _ _ _ sound c.loop-range-test.true _ _ c.loop-range.invariant c.pick_low.ensures)

pub returns : goal.returns
returns g c =
    greater_all c.as_slice-range-items.result.now c.args.uv c.loop-range.range-index c.loop-range-test.false _ c.loop-range.invariant
    ∙ ap (λ rs. pick_low (values rs) c.args.uv) (c.as_slice-range-items.ensures.value ∙ c.self.view_is)
