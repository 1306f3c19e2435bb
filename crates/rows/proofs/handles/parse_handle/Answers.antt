use Rattle.std.proofs.Common.{rules}
use Rattle.rows.proofs.Names.{not_name}
use Rattle.rows.proofs.handles.parse_handle.Goals as goal

pub returns-in_err-text-clause-none : goal.returns-in_err-text-clause-none
returns-in_err-text-clause-none c = rw c.from_residual.ensures (not_name c.args.name.now (search rules))
