use Rattle.std.proofs.Common.{ℕ, List, ◌++◌, map, sym, ap, ◌∙◌, arith}
use Rattle.use_counts.specs.declared.handle_row.HandleRow.{HandleRow}
use Rattle.plain_board.specs.Handles.{Entry}
use Rattle.plain_board.proofs.Enumerated.{flat_map-enumerated}
use Rattle.rail_ops.specs.Inside.Alone.{entries_of}
use Rattle.rail_ops.proofs.alone.handles_of.Goals as goal

pub loop-state-preserved : goal.loop-state-preserved
loop-state-preserved c =
    let grown = flat_map-enumerated entries_of c.args.states.now c.loop-state.state-index c.state-item.result c.loop-state-test.true c.state-item.is in
    let tagged : ℕ → List HandleRow → List Entry = λ i rows. map (λ row. (record { 0 = i }, row)) rows in
    record {
      number = omega arith;
      handles = c.in_ok-put_handles.ensures
          ∙ ap (λ rows. c.loop-state.handles ++ tagged c.loop-state.id rows) c.rows.ensures.rows
          ∙ ap (λ i. c.loop-state.handles ++ tagged i c.state-item.result.rows) c.loop-state.invariant.number
          ∙ ap (λ handles. handles ++ entries_of (c.loop-state.state-index, c.state-item.result)) c.loop-state.invariant.handles
          ∙ sym grown;
    }
