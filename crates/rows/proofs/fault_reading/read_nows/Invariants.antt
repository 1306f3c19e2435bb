use Rattle.std.proofs.Common.{length}
use Rattle.rows.specs.AnswerText.{now_text}
use Rattle.rows.specs.Fits.{FitsNow}
use Rattle.rows.specs.Row.{rail_name}
use Rattle.rows.proofs.Walks.{WalkSoFar}
use Rattle.rows.proofs.fault_reading.read_nows.Given as goal

abbrev pub invariant-rails : goal.invariant-rails
invariant-rails l = WalkSoFar (now_text (rail_name l.board)) (FitsNow l.board) l.text l.list l.left

abbrev pub decreases-rails : goal.decreases-rails
decreases-rails l = length l.left
