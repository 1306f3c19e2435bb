use Rattle.std.proofs.Common.{◌≡◌, ℕ, ◌<◌, ◌+◌, length, get_or, sym, ap, ◌∙◌}
use Rattle.std.specs.FinSet.{contains, from_list}
use Rattle.std.specs.Ordering.{nat_cmp}
use Rattle.reg_outside.specs.Plan.{Plan, refuses}
use Rattle.reg_outside.proofs.Plans.{contains-next}
use Rattle.reg_outside.proofs.schedule.Schedule.refuses_next.Goals as goal

pub returns-clause-refused : goal.returns-clause-refused
returns-clause-refused c =
    let small : (k : ℕ) → k < length c.self.inside.refused.items → get_or c.self.inside.refused.items k 0 < 4294967296 =
    λ k within. c.self.invariant.1 k 0 within in
    let same : c.is_among.result ≡ refuses c.args.self.now (c.args.self.now.tried + 1) =
    c.is_among.ensures
    ∙ ap (λ xs. contains (from_list {R = nat_cmp} xs) c.saturating_add-self-inside.result) c.deref.ensures.value
    ∙ contains-next c.self.inside.refused.items c.self.inside.tried c.saturating_add-self-inside.result small c.saturating_add-self-inside.ensures
    ∙ ap (λ (plan : Plan). refuses plan (plan.tried + 1)) c.self.view_is
    in (λ yes. sym same ∙ yes, λ yes. same ∙ yes)
