use Rattle.std.proofs.Common.{◌≡◌, take}
use Rattle.rail_state.proofs.rail_state.RailState.new.Given as goal

-- the handles so far are in it
abbrev pub invariant-loop-row : goal.invariant-loop-row
invariant-loop-row l = l.state ≡ record { rows = take l.row-index l.rows; held = l.hold; votes = l.votes; events = l.fn.events; suspended = l.suspended }
