use Rattle.std.proofs.Common.{◌≡◌}
use Rattle.regulator_main.proofs.Asking.{changed_first, asked_anew}
use Rattle.regulator_main.proofs.requests.put_request.Given as goal

-- the handles so far ask anew
abbrev pub invariant-loop-at : goal.invariant-loop-at
invariant-loop-at l = l.handles ≡ changed_first (asked_anew l.worker l.name.bytes l.request) l.at l.fn.handles
