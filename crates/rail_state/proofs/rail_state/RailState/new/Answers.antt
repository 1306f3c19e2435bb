use Rattle.rail_state.proofs.Handles.{new-to_those_before}
use Rattle.rail_state.proofs.rail_state.RailState.new.Goals as goal

pub add-requires-clause-new : goal.add-requires-clause-new
add-requires-clause-new c =
    rw c.loop-row.invariant (new-to_those_before c.args.rows.now c.loop-row.row-index c.row-item.result c.requires.apart c.loop-row-test.true c.row-item.is)
