use Rattle.std.proofs.Common.{◌≡◌, ◌<◌, false, sym, ap, ◌∙◌, subst, length, reverse}
use Rattle.std.proofs.lemmas.Result.{IfOk-weaker, on_err_weaker}
use Rattle.reg_outside.specs.Bus.{told_by}
use Rattle.board.specs.declared.board.Board.{Board}
use Rattle.board.specs.Valid.{IsValid}
use Rattle.rows.specs.declared.call.Call.TheVariants.{ReleaseBoot}
use Rattle.use_counts.specs.Book.{Book}
use Rattle.plain_board.specs.declared.plain.Plain.{Plain}
use Rattle.plain_board.specs.Plan.{sweep_off}
use Rattle.plain_board.specs.Untied.{CountsNoLoads, IsUntied}
use Rattle.rail_ops.specs.declared.outcome.Outcome.{Outcome}
use Rattle.rail_ops.specs.Exact.{IsExact, Performs}
use Rattle.rail_ops.specs.Sight.{placed, shown_by}
use Rattle.rail_ops.specs.Inside.Falling.{Fell, IsSighted}
use Rattle.rail_ops.specs.Inside.Releasing.{released}
use Rattle.rail_ops.proofs.Released.{exact_release, holds_all, holds_long, left_release, sighted_first, suspended_so}
use Rattle.rail_ops.proofs.desk.Desk.release_boot.Goals as goal

pub state-requires-clause-held : goal.state-requires-clause-held
state-requires-clause-held g c =
    let first = shown_by g.R.Rails.board g.R.Rails.rails g.R.Rails.bits g.R.Rails.states c.args.self.now.rails.now in
    let valid = subst IsValid (sym c.requires.board) c.requires.valid in
    let untied = subst IsUntied (sym c.requires.board) c.requires.untied in
    let no_loads = subst CountsNoLoads (sym c.requires.board) c.requires.no_loads in
    holds_all first c.args.self.now.mine.now c.args.self.now.worker valid untied no_loads c.requires.ready 0 valid.sound.some

pub returns-then-is_suspended-clause-exact : goal.returns-then-is_suspended-clause-exact
returns-then-is_suspended-clause-exact g c plain may_be =
    let first = shown_by g.R.Rails.board g.R.Rails.rails g.R.Rails.bits g.R.Rails.states c.args.self.now.rails.now in
    let valid = subst IsValid (sym c.requires.board) c.requires.valid in
    let untied = subst IsUntied (sym c.requires.board) c.requires.untied in
    let no_loads = subst CountsNoLoads (sym c.requires.board) c.requires.no_loads in
    let place = placed first c.args.self.now.mine.now c.args.self.now.worker in
    let bus = told_by g.W.Wire.accepted g.W.Wire.plan g.W.Wire.faults c.args.self.now.wire.now in
    subst (λ (outcome : Outcome). IsExact ReleaseBoot place place bus bus c.args.self.now.keep outcome.answer outcome.writes plain) (sym c.without_writes.ensures)
    (suspended_so first c.args.self.now.mine.now c.args.self.now.worker valid untied no_loads c.requires.ready plain may_be (sym (ap (λ (b : Book). b.suspended) c.state.ensures) ∙ sym c.is_suspended.ensures ∙ c.if-is_suspended.true) bus c.args.self.now.keep)

pub release-requires-clause-held : goal.release-requires-clause-held
release-requires-clause-held g c i inside =
    let first = shown_by g.R.Rails.board g.R.Rails.rails g.R.Rails.bits g.R.Rails.states c.args.self.now.rails.now in
    let valid = subst IsValid (sym c.requires.board) c.requires.valid in
    let untied = subst IsUntied (sym c.requires.board) c.requires.untied in
    let no_loads = subst CountsNoLoads (sym c.requires.board) c.requires.no_loads in
    holds_all first c.args.self.now.mine.now c.args.self.now.worker valid untied no_loads c.requires.ready i (subst (λ (b : Board). i < length b.rails) (sym c.requires.board) inside)

pub returns-clause-exact : goal.returns-clause-exact
returns-clause-exact g c =
    let first = shown_by g.R.Rails.board g.R.Rails.rails g.R.Rails.bits g.R.Rails.states c.args.self.now.rails.now in
    let valid = subst IsValid (sym c.requires.board) c.requires.valid in
    let untied = subst IsUntied (sym c.requires.board) c.requires.untied in
    let no_loads = subst CountsNoLoads (sym c.requires.board) c.requires.no_loads in
    let after = shown_by g.R.Rails.board g.R.Rails.rails g.R.Rails.bits g.R.Rails.states c.release.new.rails in
    let bus = told_by g.W.Wire.accepted g.W.Wire.plan g.W.Wire.faults c.args.self.now.wire.now in
    let bus' = told_by g.W.Wire.accepted g.W.Wire.plan g.W.Wire.faults c.release.new.wire in
    let moves = λ (plain : Plain). sweep_off first.board (released first.board plain) (reverse first.board.order) in
    let awake : (first.books 0).suspended ≡ false = sym (ap (λ (b : Book). b.suspended) c.state.ensures) ∙ sym c.is_suspended.ensures ∙ c.if-is_suspended.false in
    IfOk-weaker c.release.result
    (λ (outcome : Outcome). (plain : Plain) → IsSighted first plain → length plain.holds ≡ length c.args.self.now.board.now.rails → Fell first after bus bus' c.args.self.now.keep outcome.answer outcome.writes (released first.board plain) (moves plain))
    (λ (outcome : Outcome). Performs ReleaseBoot (placed first c.args.self.now.mine.now c.args.self.now.worker) (placed after c.args.self.now.mine.now c.args.self.now.worker) bus bus' c.args.self.now.keep outcome.answer outcome.writes)
    (λ outcome fell plain may_be.
    exact_release first c.args.self.now.mine.now c.args.self.now.worker valid untied no_loads c.requires.ready plain may_be awake after c.release.ensures.board bus bus' c.args.self.now.keep outcome.answer outcome.writes
    (fell plain (sighted_first first c.args.self.now.mine.now c.args.self.now.worker valid untied no_loads c.requires.ready plain may_be) (holds_long first c.args.self.now.mine.now c.args.self.now.worker valid untied no_loads c.requires.ready plain may_be ∙ ap (λ (b : Board). length b.rails) c.requires.board)))
    c.release.ensures.fell

pub returns-clause-err : goal.returns-clause-err
returns-clause-err g c =
    let first = shown_by g.R.Rails.board g.R.Rails.rails g.R.Rails.bits g.R.Rails.states c.args.self.now.rails.now in
    let valid = subst IsValid (sym c.requires.board) c.requires.valid in
    let untied = subst IsUntied (sym c.requires.board) c.requires.untied in
    let no_loads = subst CountsNoLoads (sym c.requires.board) c.requires.no_loads in
    let after = shown_by g.R.Rails.board g.R.Rails.rails g.R.Rails.bits g.R.Rails.states c.release.new.rails in
    let bus = told_by g.W.Wire.accepted g.W.Wire.plan g.W.Wire.faults c.args.self.now.wire.now in
    let bus' = told_by g.W.Wire.accepted g.W.Wire.plan g.W.Wire.faults c.release.new.wire in
    let moves = λ (plain : Plain). sweep_off first.board (released first.board plain) (reverse first.board.order) in
    let awake : (first.books 0).suspended ≡ false = sym (ap (λ (b : Book). b.suspended) c.state.ensures) ∙ sym c.is_suspended.ensures ∙ c.if-is_suspended.false in
    on_err_weaker c.release.result
    (λ went plain may_be.
    left_release first c.args.self.now.mine.now c.args.self.now.worker valid untied no_loads c.requires.ready plain may_be awake after c.release.ensures.board bus bus' went.0
    (went.1 plain (sighted_first first c.args.self.now.mine.now c.args.self.now.worker valid untied no_loads c.requires.ready plain may_be) (holds_long first c.args.self.now.mine.now c.args.self.now.worker valid untied no_loads c.requires.ready plain may_be ∙ ap (λ (b : Board). length b.rails) c.requires.board)))
    c.release.ensures.err
