use Rattle.std.proofs.Common.{◌≡◌, None, refl, sym, ap, subst}
use Rattle.board.specs.declared.board.Board.{Board}
use Rattle.reg_outside.specs.Bus.{told_by}
use Rattle.rows.specs.declared.answer.Answer.{Answer}
use Rattle.rows.specs.declared.call.Call.TheVariants.{IsOn}
use Rattle.plain_board.specs.declared.plain.Plain.{Plain}
use Rattle.plain_board.specs.Answer.{answer}
use Rattle.rail_ops.specs.declared.outcome.Outcome.{Outcome}
use Rattle.rail_ops.specs.Exact.{IsExact}
use Rattle.rail_ops.specs.Sight.{MayBe, placed, shown_by}
use Rattle.rail_ops.proofs.Exactly.{exact_still, may_be_same}
use Rattle.rail_ops.proofs.desk.Desk.is_on.Goals as goal

pub returns-clause-exact : goal.returns-clause-exact
returns-clause-exact g c plain may_be =
    let desk = c.args.self.now in
    let first = shown_by g.R.Rails.board g.R.Rails.rails g.R.Rails.bits g.R.Rails.states desk.rails.now in
    let last = shown_by g.R.Rails.board g.R.Rails.rails g.R.Rails.bits g.R.Rails.states c.is_on-answer.new.rails in
    let bus = told_by g.W.Wire.accepted g.W.Wire.plan g.W.Wire.faults desk.wire.now in
    let is = subst (λ (b : Board). answer b plain desk.worker (IsOn c.args.handle) None ≡ (c.is_on-answer.result, plain)) (sym c.requires.board) (c.is_on-answer.ensures.answered plain may_be) in
    subst (λ (outcome : Outcome). IsExact (IsOn c.args.handle) (placed first desk.mine.now desk.worker) (placed last desk.mine.now desk.worker) bus bus desk.keep outcome.answer outcome.writes plain) (sym c.without_writes.ensures)
    (exact_still (placed first desk.mine.now desk.worker) (placed last desk.mine.now desk.worker) (IsOn c.args.handle) bus desk.keep c.is_on-answer.result c.is_on-answer.ensures.calm plain refl
    (ap (λ (both : Answer × Plain). both.0) is)
    (subst (MayBe (placed last desk.mine.now desk.worker)) (sym (ap (λ (both : Answer × Plain). both.1) is)) (may_be_same first last desk.mine.now desk.worker plain c.is_on-answer.ensures.same may_be)))
