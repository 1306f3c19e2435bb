use Rattle.std.proofs.Common.{refl, ap, sym, subst, ◌∙◌}
use Rattle.std.proofs.lemmas.Bool.{false≢true}
use Rattle.std.proofs.lemmas.Result.{on_ok_weaker, on_err_weaker}
use Rattle.reg_outside.specs.Count.{raised}
use Rattle.reg_outside.specs.Plan.{refused_of, HasSmallNumbers}
use Rattle.reg_outside.proofs.Plans.{refused_of-planned, refused_of-other, refusals_counted, Rose-own, Rose-inside}
use Rattle.reg_outside.proofs.planned.PlannedWire.update.Goals as goal

pub returns-then-refuses_next-clause-not_passed_on : goal.returns-then-refuses_next-clause-not_passed_on
returns-then-refuses_next-clause-not_passed_on g c = λ _. rw (← c.self.view_is) refl

pub invariant_of-self : goal.invariant_of-self
invariant_of-self g c = (
  refusals_counted _ _ _ c.self.invariant.1 (c.if-refuses_next.ensures.refused.0 refl) c.self.invariant.0 c.saturating_add-self-inside.ensures ∙ sym (ap refused_of c.refuses_next.ensures.counted),
  subst HasSmallNumbers (sym c.refuses_next.ensures.counted) c.self.invariant.1,
)

pub returns-then-refuses_next-clause-own_refusal : goal.returns-then-refuses_next-clause-own_refusal
returns-then-refuses_next-clause-own_refusal g c =
    λ _. rw (← c.self.view_is) (ap refused_of c.refuses_next.ensures.counted ∙ refused_of-planned _ c.self.invariant.1 (c.if-refuses_next.ensures.refused.0 refl))

pub returns-then-refuses_next-clause-refused_counts : goal.returns-then-refuses_next-clause-refused_counts
returns-then-refuses_next-clause-refused_counts g c =
    rw (← c.self.view_is) (Rose-own _ _ _ (ap refused_of c.refuses_next.ensures.counted ∙ refused_of-planned _ c.self.invariant.1 (c.if-refuses_next.ensures.refused.0 refl)))

pub invariant_of-self-2 : goal.invariant_of-self-2
invariant_of-self-2 g c = (
  c.self.invariant.0 ∙ sym (ap refused_of c.refuses_next.ensures.counted ∙ refused_of-other _ (λ planned. absurd (false≢true (c.if-refuses_next.ensures.refused.1 planned)))),
  subst HasSmallNumbers (sym c.refuses_next.ensures.counted) c.self.invariant.1,
)

pub returns-clause-passed_on : goal.returns-clause-passed_on
returns-clause-passed_on g c =
    λ _. rw (← c.self.view_is) (ap refused_of c.refuses_next.ensures.counted ∙ refused_of-other _ (λ planned. absurd (false≢true (c.if-refuses_next.ensures.refused.1 planned))))

pub returns-clause-ok_counts_nothing : goal.returns-clause-ok_counts_nothing
returns-clause-ok_counts_nothing g c =
    let same = ap refused_of c.refuses_next.ensures.counted ∙ refused_of-other _ (λ planned. absurd (false≢true (c.if-refuses_next.ensures.refused.1 planned))) in
    rw (← c.self.view_is, same) (on_ok_weaker _ (ap (λ n. raised n (refused_of c.self.inside.plan))) c.update.ensures.ok_counts_nothing)

pub returns-clause-refused_counts : goal.returns-clause-refused_counts
returns-clause-refused_counts g c =
    let same = ap refused_of c.refuses_next.ensures.counted ∙ refused_of-other _ (λ planned. absurd (false≢true (c.if-refuses_next.ensures.refused.1 planned))) in
    rw (← c.self.view_is, same) (on_err_weaker _ (Rose-inside _ _ _) c.update.ensures.refused_counts)
