use Rattle.std.proofs.Common.{◌≤◌, ◌+◌, length}
use Rattle.session.proofs.Texts.{TextSoFar}
use Rattle.session.proofs.frame.read_text.Given as goal

abbrev pub invariant-lines : goal.invariant-lines
invariant-lines l = record { read : TextSoFar l.text l.rest l.number; room : l.number + length l.rest ≤ length l.text + 3 }

abbrev pub decreases-lines : goal.decreases-lines
decreases-lines l = length l.rest
