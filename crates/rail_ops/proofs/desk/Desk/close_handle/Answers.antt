use Rattle.std.proofs.Common.{refl}
use Rattle.reg_outside.specs.Bus.{told_by}
use Rattle.rows.specs.declared.call.Call.TheVariants.{Close}
use Rattle.rail_ops.specs.Sight.{placed, shown_by}
use Rattle.rail_ops.specs.Exact.{IsExact}
use Rattle.rail_ops.specs.declared.outcome.Outcome.{Outcome}
use Rattle.std.proofs.Common.{sym, subst}
use Rattle.rail_ops.proofs.Exactly.{exact_still}
use Rattle.rail_ops.proofs.desk.Desk.close_handle.Goals as goal

pub returns-clause-exact : goal.returns-clause-exact
returns-clause-exact g c plain may_be =
    let desk = c.args.self.now in
    let first = shown_by g.R.Rails.board g.R.Rails.rails g.R.Rails.bits g.R.Rails.states desk.rails.now in
    let last = shown_by g.R.Rails.board g.R.Rails.rails g.R.Rails.bits g.R.Rails.states c.close-answer.new.rails in
    let bus = told_by g.W.Wire.accepted g.W.Wire.plan g.W.Wire.faults desk.wire.now in
    let is = c.close-answer.ensures.answered plain may_be in
    subst (λ (outcome : Outcome). IsExact (Close c.args.handle) (placed first desk.mine.now desk.worker) (placed last c.close-answer.new.mine desk.worker) bus bus desk.keep outcome.answer outcome.writes plain) (sym c.without_writes.ensures)
    (exact_still (placed first desk.mine.now desk.worker) (placed last c.close-answer.new.mine desk.worker) (Close c.args.handle) bus desk.keep c.close-answer.result c.close-answer.ensures.calm plain refl is.answered is.leaves)
