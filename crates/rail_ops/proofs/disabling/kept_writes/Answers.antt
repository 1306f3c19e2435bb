use Rattle.std.proofs.Common.{ℕ, Some, sym, subst}
use Rattle.rail_ops.specs.Inside.Rising.{LeadsUp}
use Rattle.rail_ops.proofs.Chains.{leads_up}
use Rattle.rail_ops.proofs.disabling.kept_writes.Goals as goal

pub list_down-requires-clause-up : goal.list_down-requires-clause-up
list_down-requires-clause-up c = subst (λ (n : ℕ). LeadsUp c.args.board.now n (Some c.args.r.0)) (sym c.len.ensures) (leads_up c.args.board.now c.requires.valid c.args.r.0 c.requires.there)
