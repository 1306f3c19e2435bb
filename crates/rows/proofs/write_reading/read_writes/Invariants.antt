use Rattle.std.proofs.Common.{length}
use Rattle.rows.specs.Fits.{FitsWrite}
use Rattle.rows.specs.Row.{write_text}
use Rattle.rows.proofs.Walks.{WalkSoFar}
use Rattle.rows.proofs.write_reading.read_writes.Given as goal

abbrev pub invariant-lines : goal.invariant-lines
invariant-lines l = WalkSoFar write_text (FitsWrite l.board) l.text l.writes l.left

abbrev pub decreases-lines : goal.decreases-lines
decreases-lines l = length l.left
