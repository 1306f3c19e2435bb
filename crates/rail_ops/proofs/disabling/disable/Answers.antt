use Rattle.std.proofs.Common.{◌≡◌, ℕ, List, Some, refl, sym, ap, ◌∙◌, subst, slice_get, All}
use Rattle.std.specs.Prelude.{Contains, IsSome, option_map, position}
use Rattle.std.proofs.lemmas.Result.{IfOk-weaker, on_err_weaker}
use Rattle.reg_outside.specs.Bus.{told_by}
use Rattle.board.specs.declared.rail_id.RailId.{RailId}
use Rattle.rail_state.specs.Sight.{IsOwned}
use Rattle.rows.specs.declared.call.Call.TheVariants.{Disable}
use Rattle.use_counts.specs.Book.{Book}
use Rattle.use_counts.specs.Uses.{is_row_of, rail_named}
use Rattle.use_counts.specs.declared.handle_row.HandleRow.{HandleRow}
use Rattle.plain_board.specs.declared.plain.Plain.{Plain}
use Rattle.plain_board.specs.Plan.{chain, chain_off}
use Rattle.plain_board.proofs.KeptDisable.{given_up}
use Rattle.rail_ops.specs.declared.outcome.Outcome.{Outcome}
use Rattle.rail_ops.specs.Exact.{IsExact, Performs}
use Rattle.rail_ops.specs.Sight.{placed, shown_by}
use Rattle.rail_ops.specs.Inside.Disabling.{disable_refusal}
use Rattle.rail_ops.specs.Inside.Falling.{Fell, IsSighted}
use Rattle.rail_ops.proofs.Disabled.{exact_so, has_enable, holds_chain, holds_rail, inside_board, left_so, owns_chain, refused_so, row_seen, sighted_so}
use Rattle.rail_ops.proofs.disabling.disable.Goals as goal

pub state-requires-clause-held : goal.state-requires-clause-held
state-requires-clause-held g c =
    let first = shown_by g.R.Rails.board g.R.Rails.rails g.R.Rails.bits g.R.Rails.states c.args.rails.now in
    let named : rail_named c.args.mine.now c.args.handle.now.bytes ≡ Some c.in-Some.r.0 = sym c.rail_of.ensures ∙ ap (option_map (λ (id : RailId). id.0)) c.in-Some.is in
    holds_rail first c.args.board.now c.requires.board c.requires.valid c.requires.untied c.requires.no_loads c.args.mine.now c.args.worker c.args.handle.now c.requires.ready c.in-Some.r.0 named

pub unwrap-at-requires : goal.unwrap-at-requires
unwrap-at-requires g c =
    let first = shown_by g.R.Rails.board g.R.Rails.rails g.R.Rails.bits g.R.Rails.states c.args.rails.now in
    let named : rail_named c.args.mine.now c.args.handle.now.bytes ≡ Some c.in-Some.r.0 = sym c.rail_of.ensures ∙ ap (option_map (λ (id : RailId). id.0)) c.in-Some.is in
    let is = c.place_of.ensures.place ∙ ap (λ (b : Book). position (is_row_of c.args.worker c.args.handle.now.bytes) b.rows) c.state.ensures ∙ (row_seen first c.args.board.now c.requires.board c.requires.valid c.requires.untied c.requires.no_loads c.args.mine.now c.args.worker c.args.handle.now c.requires.ready c.in-Some.r.0 named).1 in
    subst IsSome (sym is) refl

pub state-requires-2-clause-held : goal.state-requires-2-clause-held
state-requires-2-clause-held g c =
    let first = shown_by g.R.Rails.board g.R.Rails.rails g.R.Rails.bits g.R.Rails.states c.args.rails.now in
    let named : rail_named c.args.mine.now c.args.handle.now.bytes ≡ Some c.in-Some.r.0 = sym c.rail_of.ensures ∙ ap (option_map (λ (id : RailId). id.0)) c.in-Some.is in
    holds_rail first c.args.board.now c.requires.board c.requires.valid c.requires.untied c.requires.no_loads c.args.mine.now c.args.worker c.args.handle.now c.requires.ready c.in-Some.r.0 named

pub returns-in-Some-refusal-clause-exact : goal.returns-in-Some-refusal-clause-exact
returns-in-Some-refusal-clause-exact g c plain may_be =
    let first = shown_by g.R.Rails.board g.R.Rails.rails g.R.Rails.bits g.R.Rails.states c.args.rails.now in
    let named : rail_named c.args.mine.now c.args.handle.now.bytes ≡ Some c.in-Some.r.0 = sym c.rail_of.ensures ∙ ap (option_map (λ (id : RailId). id.0)) c.in-Some.is in
    let place_is : position (is_row_of c.args.worker c.args.handle.now.bytes) (first.books c.in-Some.r.0).rows ≡ Some c.unwrap-at.result =
    sym (ap (λ (b : Book). position (is_row_of c.args.worker c.args.handle.now.bytes) b.rows) c.state.ensures) ∙ sym c.place_of.ensures.place ∙ c.unwrap-at.ensures in
    let judges : (row : HandleRow) → slice_get (first.books c.in-Some.r.0).rows c.unwrap-at.result ≡ Some row → c.refusal.result ≡ disable_refusal (first.books c.in-Some.r.0).suspended row.enables =
    λ row is. c.refusal.ensures row (ap (λ (b : Book). slice_get b.rows c.unwrap-at.result) c.state-2.ensures ∙ is) ∙ ap (λ (b : Book). disable_refusal b.suspended row.enables) c.state-2.ensures in
    let place = placed first c.args.mine.now c.args.worker in
    let bus = told_by g.W.Wire.accepted g.W.Wire.plan g.W.Wire.faults c.args.wire.now in
    subst (λ (outcome : Outcome). IsExact (Disable c.args.handle.now) place place bus bus c.args.keep outcome.answer outcome.writes plain) (sym c.without_writes-in-Some-refusal.ensures)
    (refused_so first c.args.board.now c.requires.board c.requires.valid c.requires.untied c.requires.no_loads c.args.mine.now c.args.worker c.args.handle.now c.requires.ready c.in-Some.r.0 named c.unwrap-at.result place_is c.refusal.result judges c.in-Some-refusal.said c.in-Some-refusal.is bus c.args.keep plain may_be)

pub give_up-requires-clause-held : goal.give_up-requires-clause-held
give_up-requires-clause-held g c =
    let first = shown_by g.R.Rails.board g.R.Rails.rails g.R.Rails.bits g.R.Rails.states c.args.rails.now in
    let named : rail_named c.args.mine.now c.args.handle.now.bytes ≡ Some c.in-Some.r.0 = sym c.rail_of.ensures ∙ ap (option_map (λ (id : RailId). id.0)) c.in-Some.is in
    holds_rail first c.args.board.now c.requires.board c.requires.valid c.requires.untied c.requires.no_loads c.args.mine.now c.args.worker c.args.handle.now c.requires.ready c.in-Some.r.0 named

pub give_up-requires-clause-some : goal.give_up-requires-clause-some
give_up-requires-clause-some g c =
    let first = shown_by g.R.Rails.board g.R.Rails.rails g.R.Rails.bits g.R.Rails.states c.args.rails.now in
    let named : rail_named c.args.mine.now c.args.handle.now.bytes ≡ Some c.in-Some.r.0 = sym c.rail_of.ensures ∙ ap (option_map (λ (id : RailId). id.0)) c.in-Some.is in
    let place_is : position (is_row_of c.args.worker c.args.handle.now.bytes) (first.books c.in-Some.r.0).rows ≡ Some c.unwrap-at.result =
    sym (ap (λ (b : Book). position (is_row_of c.args.worker c.args.handle.now.bytes) b.rows) c.state.ensures) ∙ sym c.place_of.ensures.place ∙ c.unwrap-at.ensures in
    let judges : (row : HandleRow) → slice_get (first.books c.in-Some.r.0).rows c.unwrap-at.result ≡ Some row → c.refusal.result ≡ disable_refusal (first.books c.in-Some.r.0).suspended row.enables =
    λ row is. c.refusal.ensures row (ap (λ (b : Book). slice_get b.rows c.unwrap-at.result) c.state-2.ensures ∙ is) ∙ ap (λ (b : Book). disable_refusal b.suspended row.enables) c.state-2.ensures in
    has_enable first c.args.board.now c.requires.board c.requires.valid c.requires.untied c.requires.no_loads c.args.mine.now c.args.worker c.args.handle.now c.requires.ready c.in-Some.r.0 named c.unwrap-at.result place_is c.refusal.result judges c.in_default-refusal.is

pub take_down-requires-clause-there : goal.take_down-requires-clause-there
take_down-requires-clause-there g c =
    let first = shown_by g.R.Rails.board g.R.Rails.rails g.R.Rails.bits g.R.Rails.states c.args.rails.now in
    let named : rail_named c.args.mine.now c.args.handle.now.bytes ≡ Some c.in-Some.r.0 = sym c.rail_of.ensures ∙ ap (option_map (λ (id : RailId). id.0)) c.in-Some.is in
    inside_board first c.args.board.now c.requires.board c.requires.valid c.requires.untied c.requires.no_loads c.args.mine.now c.args.worker c.args.handle.now c.requires.ready c.in-Some.r.0 named

pub take_down-requires-clause-held : goal.take_down-requires-clause-held
take_down-requires-clause-held g c =
    let first = shown_by g.R.Rails.board g.R.Rails.rails g.R.Rails.bits g.R.Rails.states c.args.rails.now in
    let named : rail_named c.args.mine.now c.args.handle.now.bytes ≡ Some c.in-Some.r.0 = sym c.rail_of.ensures ∙ ap (option_map (λ (id : RailId). id.0)) c.in-Some.is in
    subst (λ (rs : List ℕ). All (λ i. Contains rs i) (chain c.args.board.now c.in-Some.r.0)) (sym c.give_up.ensures.rails) (holds_chain first c.args.board.now c.requires.board c.requires.valid c.requires.untied c.requires.no_loads c.args.mine.now c.args.worker c.args.handle.now c.requires.ready c.in-Some.r.0 named)

pub take_down-requires-clause-owned : goal.take_down-requires-clause-owned
take_down-requires-clause-owned g c =
    let first = shown_by g.R.Rails.board g.R.Rails.rails g.R.Rails.bits g.R.Rails.states c.args.rails.now in
    let named : rail_named c.args.mine.now c.args.handle.now.bytes ≡ Some c.in-Some.r.0 = sym c.rail_of.ensures ∙ ap (option_map (λ (id : RailId). id.0)) c.in-Some.is in
    subst (λ (rs : List ℕ). All (IsOwned c.args.board.now rs) (chain c.args.board.now c.in-Some.r.0)) (sym c.give_up.ensures.rails) (owns_chain first c.args.board.now c.requires.board c.requires.valid c.requires.untied c.requires.no_loads c.args.mine.now c.args.worker c.args.handle.now c.requires.ready c.in-Some.r.0 named)

pub take_down-requires-clause-seen : goal.take_down-requires-clause-seen
take_down-requires-clause-seen g c =
    let first = shown_by g.R.Rails.board g.R.Rails.rails g.R.Rails.bits g.R.Rails.states c.args.rails.now in
    let named : rail_named c.args.mine.now c.args.handle.now.bytes ≡ Some c.in-Some.r.0 = sym c.rail_of.ensures ∙ ap (option_map (λ (id : RailId). id.0)) c.in-Some.is in
    let place_is : position (is_row_of c.args.worker c.args.handle.now.bytes) (first.books c.in-Some.r.0).rows ≡ Some c.unwrap-at.result =
    sym (ap (λ (b : Book). position (is_row_of c.args.worker c.args.handle.now.bytes) b.rows) c.state.ensures) ∙ sym c.place_of.ensures.place ∙ c.unwrap-at.ensures in
    let judges : (row : HandleRow) → slice_get (first.books c.in-Some.r.0).rows c.unwrap-at.result ≡ Some row → c.refusal.result ≡ disable_refusal (first.books c.in-Some.r.0).suspended row.enables =
    λ row is. c.refusal.ensures row (ap (λ (b : Book). slice_get b.rows c.unwrap-at.result) c.state-2.ensures ∙ is) ∙ ap (λ (b : Book). disable_refusal b.suspended row.enables) c.state-2.ensures in
    let mid = shown_by g.R.Rails.board g.R.Rails.rails g.R.Rails.bits g.R.Rails.states c.give_up.new.rails in
    (given_up c.requires.ready.plain c.args.worker c.args.handle.now, sighted_so first c.args.board.now c.requires.board c.requires.valid c.requires.untied c.requires.no_loads c.args.mine.now c.args.worker c.args.handle.now c.requires.ready c.in-Some.r.0 named c.unwrap-at.result place_is c.refusal.result judges c.in_default-refusal.is mid c.give_up.ensures.given_up c.requires.ready.plain c.requires.ready.may_be)

pub returns-clause-exact : goal.returns-clause-exact
returns-clause-exact g c =
    let first = shown_by g.R.Rails.board g.R.Rails.rails g.R.Rails.bits g.R.Rails.states c.args.rails.now in
    let named : rail_named c.args.mine.now c.args.handle.now.bytes ≡ Some c.in-Some.r.0 = sym c.rail_of.ensures ∙ ap (option_map (λ (id : RailId). id.0)) c.in-Some.is in
    let place_is : position (is_row_of c.args.worker c.args.handle.now.bytes) (first.books c.in-Some.r.0).rows ≡ Some c.unwrap-at.result =
    sym (ap (λ (b : Book). position (is_row_of c.args.worker c.args.handle.now.bytes) b.rows) c.state.ensures) ∙ sym c.place_of.ensures.place ∙ c.unwrap-at.ensures in
    let judges : (row : HandleRow) → slice_get (first.books c.in-Some.r.0).rows c.unwrap-at.result ≡ Some row → c.refusal.result ≡ disable_refusal (first.books c.in-Some.r.0).suspended row.enables =
    λ row is. c.refusal.ensures row (ap (λ (b : Book). slice_get b.rows c.unwrap-at.result) c.state-2.ensures ∙ is) ∙ ap (λ (b : Book). disable_refusal b.suspended row.enables) c.state-2.ensures in
    let mid = shown_by g.R.Rails.board g.R.Rails.rails g.R.Rails.bits g.R.Rails.states c.give_up.new.rails in
    let after = shown_by g.R.Rails.board g.R.Rails.rails g.R.Rails.bits g.R.Rails.states c.take_down.new.rails in
    let bus = told_by g.W.Wire.accepted g.W.Wire.plan g.W.Wire.faults c.args.wire.now in
    let bus' = told_by g.W.Wire.accepted g.W.Wire.plan g.W.Wire.faults c.take_down.new.wire in
    IfOk-weaker c.take_down.result
    (λ (outcome : Outcome). (plain : Plain) → IsSighted mid plain → Fell mid after bus bus' c.args.keep outcome.answer outcome.writes plain (chain_off mid.board plain (chain c.args.board.now c.in-Some.r.0)))
    (λ (outcome : Outcome). Performs (Disable c.args.handle.now) (placed first c.args.mine.now c.args.worker) (placed after c.args.mine.now c.args.worker) bus bus' c.args.keep outcome.answer outcome.writes)
    (λ outcome fell plain may_be.
    exact_so first c.args.board.now c.requires.board c.requires.valid c.requires.untied c.requires.no_loads c.args.mine.now c.args.worker c.args.handle.now c.requires.ready c.in-Some.r.0 named c.unwrap-at.result place_is c.refusal.result judges c.in_default-refusal.is mid c.give_up.ensures.given_up after c.take_down.ensures.board bus bus' plain may_be c.args.keep outcome.answer outcome.writes
    (fell (given_up plain c.args.worker c.args.handle.now) (sighted_so first c.args.board.now c.requires.board c.requires.valid c.requires.untied c.requires.no_loads c.args.mine.now c.args.worker c.args.handle.now c.requires.ready c.in-Some.r.0 named c.unwrap-at.result place_is c.refusal.result judges c.in_default-refusal.is mid c.give_up.ensures.given_up plain may_be)))
    c.take_down.ensures.fell

pub returns-clause-err : goal.returns-clause-err
returns-clause-err g c =
    let first = shown_by g.R.Rails.board g.R.Rails.rails g.R.Rails.bits g.R.Rails.states c.args.rails.now in
    let named : rail_named c.args.mine.now c.args.handle.now.bytes ≡ Some c.in-Some.r.0 = sym c.rail_of.ensures ∙ ap (option_map (λ (id : RailId). id.0)) c.in-Some.is in
    let place_is : position (is_row_of c.args.worker c.args.handle.now.bytes) (first.books c.in-Some.r.0).rows ≡ Some c.unwrap-at.result =
    sym (ap (λ (b : Book). position (is_row_of c.args.worker c.args.handle.now.bytes) b.rows) c.state.ensures) ∙ sym c.place_of.ensures.place ∙ c.unwrap-at.ensures in
    let judges : (row : HandleRow) → slice_get (first.books c.in-Some.r.0).rows c.unwrap-at.result ≡ Some row → c.refusal.result ≡ disable_refusal (first.books c.in-Some.r.0).suspended row.enables =
    λ row is. c.refusal.ensures row (ap (λ (b : Book). slice_get b.rows c.unwrap-at.result) c.state-2.ensures ∙ is) ∙ ap (λ (b : Book). disable_refusal b.suspended row.enables) c.state-2.ensures in
    let mid = shown_by g.R.Rails.board g.R.Rails.rails g.R.Rails.bits g.R.Rails.states c.give_up.new.rails in
    let after = shown_by g.R.Rails.board g.R.Rails.rails g.R.Rails.bits g.R.Rails.states c.take_down.new.rails in
    let bus = told_by g.W.Wire.accepted g.W.Wire.plan g.W.Wire.faults c.args.wire.now in
    let bus' = told_by g.W.Wire.accepted g.W.Wire.plan g.W.Wire.faults c.take_down.new.wire in
    on_err_weaker c.take_down.result
    (λ went plain may_be.
    left_so first c.args.board.now c.requires.board c.requires.valid c.requires.untied c.requires.no_loads c.args.mine.now c.args.worker c.args.handle.now c.requires.ready c.in-Some.r.0 named c.unwrap-at.result place_is c.refusal.result judges c.in_default-refusal.is mid c.give_up.ensures.given_up after c.take_down.ensures.board bus bus' plain may_be went.0
    (went.1 (given_up plain c.args.worker c.args.handle.now) (sighted_so first c.args.board.now c.requires.board c.requires.valid c.requires.untied c.requires.no_loads c.args.mine.now c.args.worker c.args.handle.now c.requires.ready c.in-Some.r.0 named c.unwrap-at.result place_is c.refusal.result judges c.in_default-refusal.is mid c.give_up.ensures.given_up plain may_be)))
    c.take_down.ensures.err
