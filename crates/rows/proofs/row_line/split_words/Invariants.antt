use Rattle.std.proofs.Common.{◌≡◌, ◌<◌, ◌+◌, take}
use Rattle.rows.specs.RowLine.{spaces}
use Rattle.rows.proofs.row_line.split_words.Given as goal

-- so many spaces are left to be passed
abbrev pub invariant-loop-at : goal.invariant-loop-at
invariant-loop-at l = (0 < l.left) × (spaces (take l.at l.text) + l.left ≡ l.count)
