use Rattle.rail_state.proofs.Handles.{kept-remove}
use Rattle.rail_state.proofs.rail_state.RailState.remove.Goals as goal

pub invariant_of-self : goal.invariant_of-self
invariant_of-self c =
    rw (c.remove-row.ensures.rest, c.withdraw.ensures)
    (kept-remove c.self.inside.uses.rows c.args.at c.remove-row.result c.self.inside.requests c.remove-row.ensures.row c.self.invariant)
