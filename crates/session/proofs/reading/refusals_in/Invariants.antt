use Rattle.std.proofs.Common.{◌≡◌, take}
use Rattle.session.specs.Loading.{refusals_in}
use Rattle.session.proofs.reading.refusals_in.Given as goal

abbrev pub invariant-loop-line : goal.invariant-loop-line
invariant-loop-line l = l.refusals ≡ refusals_in (take l.line-index l.setup)
