use Rattle.std.proofs.Common.{◌&&◌, sym, ap, ◌∙◌, arith}
use Rattle.regulator_main.specs.Inside.Asked.{asks, meets_any}
use Rattle.regulator_main.proofs.Bounds.{one_more}
use Rattle.regulator_main.proofs.requests.bounds.Goals as goal

pub loop-row-preserved : goal.loop-row-preserved
loop-row-preserved c = λ uv.
    one_more uv c.args.request (asks c.args.worker c.args.name.now.bytes c.args.id.0) c.args.handles.now c.loop-row.row-index c.row-item.result c.asks.result (omega arith) c.row-item.is (sym c.asks.ensures)
    ∙ ap (λ b. b && meets_any uv c.asks.result) (c.loop-row.invariant uv)
    ∙ sym (c.narrowed-all.ensures uv)
