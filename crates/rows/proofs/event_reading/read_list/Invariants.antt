use Rattle.std.proofs.Common.{length}
use Rattle.rows.specs.AnswerText.{next_event_text}
use Rattle.rows.specs.Fits.{FitsEvent}
use Rattle.rows.proofs.Walks.{WalkSoFar}
use Rattle.rows.proofs.event_reading.read_list.Given as goal

abbrev pub invariant-events : goal.invariant-events
invariant-events l = WalkSoFar next_event_text FitsEvent l.text l.list l.left

abbrev pub decreases-events : goal.decreases-events
decreases-events l = length l.left
