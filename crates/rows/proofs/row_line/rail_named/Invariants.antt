use Rattle.std.proofs.Common.{◌≢◌, ℕ, ◌<◌}
use Rattle.rows.specs.Row.{rail_name}
use Rattle.rows.proofs.row_line.rail_named.Given as goal

-- no rail so far has the name
abbrev pub invariant-loop-at : goal.invariant-loop-at
invariant-loop-at l = (k : ℕ) → k < l.at → rail_name l.board (record { 0 = k }) ≢ l.word
