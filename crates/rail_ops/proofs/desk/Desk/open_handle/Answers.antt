use Rattle.std.proofs.Common.{refl, sym, subst}
use Rattle.std.proofs.lemmas.Result.{err_from_is_err_and}
use Rattle.reg_outside.specs.Bus.{told_by}
use Rattle.rows.specs.declared.call.Call.TheVariants.{Open}
use Rattle.rail_ops.specs.declared.outcome.Outcome.{Outcome}
use Rattle.rail_ops.specs.Exact.{IsExact}
use Rattle.rail_ops.specs.Sight.{placed, shown_by}
use Rattle.rail_ops.proofs.Exactly.{exact_still, left_still}
use Rattle.rail_ops.proofs.desk.Desk.open_handle.Goals as goal

pub returns-clause-exact : goal.returns-clause-exact
returns-clause-exact g c plain may_be =
    let desk = c.args.self.now in
    let first = shown_by g.R.Rails.board g.R.Rails.rails g.R.Rails.bits g.R.Rails.states desk.rails.now in
    let last = shown_by g.R.Rails.board g.R.Rails.rails g.R.Rails.bits g.R.Rails.states c.«open».new.rails in
    let bus = told_by g.W.Wire.accepted g.W.Wire.plan g.W.Wire.faults desk.wire.now in
    let is = c.in_ok-answer.ensures.answered plain may_be in
    let call = Open c.args.handle c.args.r c.args.exclusive in
    subst (λ (outcome : Outcome). IsExact call (placed first desk.mine.now desk.worker) (placed last c.«open».new.mine desk.worker) bus bus desk.keep outcome.answer outcome.writes plain) (sym c.without_writes.ensures)
    (exact_still (placed first desk.mine.now desk.worker) (placed last c.«open».new.mine desk.worker) call bus desk.keep c.in_ok-answer.answer c.in_ok-answer.ensures.calm plain refl is.answered is.leaves)

pub returns-in_err-answer-clause-err : goal.returns-in_err-answer-clause-err
returns-in_err-answer-clause-err g c =
    let desk = c.args.self.now in
    let first = shown_by g.R.Rails.board g.R.Rails.rails g.R.Rails.bits g.R.Rails.states desk.rails.now in
    let last = shown_by g.R.Rails.board g.R.Rails.rails g.R.Rails.bits g.R.Rails.states c.«open».new.rails in
    let bus = told_by g.W.Wire.accepted g.W.Wire.plan g.W.Wire.faults desk.wire.now in
    let exit = err_from_is_err_and c.from_residual.result c.from_residual.ensures.1 in
    rw exit.1 (λ plain may_be. left_still first last desk.mine.now c.«open».new.mine desk.worker (Open c.args.handle c.args.r c.args.exclusive) bus plain may_be refl c.in_err-answer.ensures.same c.in_err-answer.ensures.unchanged)
