use Rattle.std.proofs.Common.{rules}
use Rattle.session.proofs.CallLines.{open_name}
use Rattle.session.proofs.calls.parse_open.Goals as goal

pub returns-in_err-handle-clause-none : goal.returns-in_err-handle-clause-none
returns-in_err-handle-clause-none c =
    rw c.from_residual-in_err-handle.ensures (λ call script same. c.in_err-handle.ensures.none (open_name c.args.line.now c.in_ok-name.name.now call (search rules) script same))
