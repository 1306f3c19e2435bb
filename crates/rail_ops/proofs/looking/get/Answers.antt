use Rattle.std.proofs.Common.{◌≡◌, ℕ, None, Some, refl, sym, ap, ◌∙◌, subst, option_map}
use Rattle.board.specs.declared.board.Board.{Board}
use Rattle.board.specs.declared.rail_id.RailId.{RailId}
use Rattle.rail_state.specs.Sight.{IsGuarded}
use Rattle.plain_board.specs.Answer.{answer}
use Rattle.rows.specs.declared.answer.Answer.TheVariants.{OkUv}
use Rattle.rows.specs.declared.call.Call.TheVariants.{Get}
use Rattle.use_counts.specs.Uses.{rail_named}
use Rattle.rail_ops.specs.Sight.{placed, shown_by}
use Rattle.rail_ops.proofs.Ready.{named_guarded, named_inside}
use Rattle.rail_ops.proofs.Reading.{get_named}
use Rattle.rail_ops.proofs.looking.get.Goals as goal

pub seen_uv-requires-clause-there : goal.seen_uv-requires-clause-there
seen_uv-requires-clause-there g c =
    let place = placed (shown_by g.R.Rails.board g.R.Rails.rails g.R.Rails.bits g.R.Rails.states c.args.rails.now) c.args.mine.now c.args.worker in
    let named : rail_named c.args.mine.now c.args.handle.now.bytes ≡ Some c.in-Some.r.0 = sym c.rail_of.ensures ∙ ap (option_map (λ (r : RailId). r.0)) c.in-Some.is in
    named_inside place c.requires.ready.plain c.requires.ready.may_be c.args.board.now c.requires.board c.args.handle.now.bytes c.in-Some.r.0 named

pub seen_uv-requires-clause-guarded : goal.seen_uv-requires-clause-guarded
seen_uv-requires-clause-guarded g c =
    let place = placed (shown_by g.R.Rails.board g.R.Rails.rails g.R.Rails.bits g.R.Rails.states c.args.rails.now) c.args.mine.now c.args.worker in
    let named : rail_named c.args.mine.now c.args.handle.now.bytes ≡ Some c.in-Some.r.0 = sym c.rail_of.ensures ∙ ap (option_map (λ (r : RailId). r.0)) c.in-Some.is in
    named_guarded place (Get c.args.handle.now) c.args.handle.now.bytes c.requires.ready refl c.args.board.now c.requires.board c.requires.valid c.in-Some.r.0 named

pub returns-clause-answered : goal.returns-clause-answered
returns-clause-answered g c plain may_be =
    let place = placed (shown_by g.R.Rails.board g.R.Rails.rails g.R.Rails.bits g.R.Rails.states c.args.rails.now) c.args.mine.now c.args.worker in
    let named : rail_named c.args.mine.now c.args.handle.now.bytes ≡ Some c.in-Some.r.0 = sym c.rail_of.ensures ∙ ap (option_map (λ (r : RailId). r.0)) c.in-Some.is in
    subst (λ (u : ℕ). answer c.args.board.now plain c.args.worker (Get c.args.handle.now) None ≡ (OkUv u, plain)) (sym c.seen_uv.ensures.value)
    (get_named place plain may_be c.args.board.now c.requires.board c.args.handle.now c.in-Some.r.0 named
    (subst (λ (b : Board). IsGuarded b (g.R.Rails.rails c.args.rails.now) c.in-Some.r.0) (sym c.requires.board)
    (named_guarded place (Get c.args.handle.now) c.args.handle.now.bytes c.requires.ready refl c.args.board.now c.requires.board c.requires.valid c.in-Some.r.0 named)))
