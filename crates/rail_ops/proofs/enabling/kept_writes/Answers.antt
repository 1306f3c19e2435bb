use Rattle.std.proofs.Common.{ℕ, Some, sym, subst, All}
use Rattle.std.specs.Prelude.{Contains}
use Rattle.plain_board.specs.Plan.{upward}
use Rattle.rail_ops.specs.Inside.Rising.{LeadsUp}
use Rattle.rail_ops.proofs.Chains.{leads_up}
use Rattle.rail_ops.proofs.enabling.kept_writes.Goals as goal

pub writes_up-requires-clause-up : goal.writes_up-requires-clause-up
writes_up-requires-clause-up g c =
    subst (λ (n : ℕ). LeadsUp c.args.board.now n (Some c.args.r.0)) (sym c.len.ensures) (leads_up c.args.board.now c.requires.valid c.args.r.0 c.requires.there)

pub writes_up-requires-clause-held : goal.writes_up-requires-clause-held
writes_up-requires-clause-held g c =
    subst (λ (n : ℕ). All (λ i. Contains (g.R.Rails.rails c.args.rails.now) i) (upward c.args.board.now.graph n (Some c.args.r.0))) (sym c.len.ensures) c.requires.held
