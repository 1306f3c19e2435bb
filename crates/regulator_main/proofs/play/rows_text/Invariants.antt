use Rattle.std.proofs.Common.{◌≡◌, take, flat_map}
use Rattle.rows.specs.Row.{row_text}
use Rattle.regulator_main.proofs.play.rows_text.Given as goal

-- the rows so far are printed
abbrev pub invariant-loop-row : goal.invariant-loop-row
invariant-loop-row l = l.text.items ≡ flat_map (row_text l.board) (take l.row-index l.rows)
