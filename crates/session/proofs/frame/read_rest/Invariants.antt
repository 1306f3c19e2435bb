use Rattle.std.proofs.Common.{◌<◌, ◌+◌, ◌^◌, length}
use Rattle.session.specs.Frame.{BoardPart}
use Rattle.session.specs.Inside.Progress.{IsBeginning, IsBehind}
use Rattle.session.proofs.Rests.{RestSoFar}
use Rattle.session.proofs.frame.read_rest.Given as goal

abbrev pub invariant-lines : goal.invariant-lines
invariant-lines l = record {
  beginning : IsBeginning l.progress;
  read : (board : BoardPart) → IsBehind board l.demo l.first → RestSoFar board l.text l.progress l.rest l.number;
  room : l.number + length l.rest < 2 ^ 32;
}

abbrev pub decreases-lines : goal.decreases-lines
decreases-lines l = length l.rest
