use Rattle.std.proofs.Common.{ℕ, List, [], None, sym, ap, ◌∙◌, subst}
use Rattle.std.specs.Prelude.{Contains, ◌++◌, if◌then◌else◌, take, reverse}
use Rattle.std.proofs.lemmas.Result.{err_from_is_err_and}
use Rattle.reg_outside.specs.Bus.{told_by}
use Rattle.board.specs.declared.write.Write.{Write}
use Rattle.rail_law.specs.Moves.{writes_of}
use Rattle.plain_board.specs.Plan.{sweep_off}
use Rattle.rail_ops.specs.Sight.{shown_by}
use Rattle.rail_ops.specs.Inside.Releasing.{EndsHolds, released}
use Rattle.rail_ops.proofs.GoneDown.{fell_with}
use Rattle.rail_ops.proofs.Released.{sighted_released, swept, swept_left}
use Rattle.rail_ops.proofs.releasing.release.Goals as goal

pub sweep_down-requires-clause-held : goal.sweep_down-requires-clause-held
sweep_down-requires-clause-held g c i inside = subst (λ (rs : List ℕ). Contains rs i) (sym c.end_holds.ensures.ended.rails) (c.requires.held i inside)

pub sweep_down-requires-clause-seen : goal.sweep_down-requires-clause-seen
sweep_down-requires-clause-seen g c =
    let board = c.args.board.now in
    let first = shown_by g.R.Rails.board g.R.Rails.rails g.R.Rails.bits g.R.Rails.states c.args.rails.now in
    let mid = shown_by g.R.Rails.board g.R.Rails.rails g.R.Rails.bits g.R.Rails.states c.end_holds.new.rails in
    let ends = subst (λ (n : ℕ). EndsHolds n first mid) c.len.ensures c.end_holds.ensures.ended in
    (released first.board c.requires.seen.0, sighted_released first mid board c.requires.board c.requires.seen.0 c.requires.seen.1 c.requires.seen.2 ends)

pub returns-in_err-fall-clause-err : goal.returns-in_err-fall-clause-err
returns-in_err-fall-clause-err g c =
    let exit = err_from_is_err_and c.from_residual.result c.from_residual.ensures.1 in
    let went = c.in_err-fall.ensures.err in
    rw exit.1 (
      went.0,
      λ plain sighted holds.
          let board = c.args.board.now in
          let first = shown_by g.R.Rails.board g.R.Rails.rails g.R.Rails.bits g.R.Rails.states c.args.rails.now in
          let mid = shown_by g.R.Rails.board g.R.Rails.rails g.R.Rails.bits g.R.Rails.states c.end_holds.new.rails in
          let ends = subst (λ (n : ℕ). EndsHolds n first mid) c.len.ensures c.end_holds.ensures.ended in
          let after = shown_by g.R.Rails.board g.R.Rails.rails g.R.Rails.bits g.R.Rails.states c.sweep_down.new.rails in
          let bus = told_by g.W.Wire.accepted g.W.Wire.plan g.W.Wire.faults c.args.wire.now in
          let bus' = told_by g.W.Wire.accepted g.W.Wire.plan g.W.Wire.faults c.sweep_down.new.wire in
          swept_left first mid after board c.requires.board ends.board bus bus' (released first.board plain) c.len-2.result c.len-2.ensures went.0 None
          (went.1 (released first.board plain) (sighted_released first mid board c.requires.board plain sighted holds ends)),
    )

pub returns-clause-fell : goal.returns-clause-fell
returns-clause-fell g c plain sighted holds =
    let board = c.args.board.now in
    let first = shown_by g.R.Rails.board g.R.Rails.rails g.R.Rails.bits g.R.Rails.states c.args.rails.now in
    let mid = shown_by g.R.Rails.board g.R.Rails.rails g.R.Rails.bits g.R.Rails.states c.end_holds.new.rails in
    let ends = subst (λ (n : ℕ). EndsHolds n first mid) c.len.ensures c.end_holds.ensures.ended in
    let after = shown_by g.R.Rails.board g.R.Rails.rails g.R.Rails.bits g.R.Rails.states c.sweep_down.new.rails in
    let bus = told_by g.W.Wire.accepted g.W.Wire.plan g.W.Wire.faults c.args.wire.now in
    let bus' = told_by g.W.Wire.accepted g.W.Wire.plan g.W.Wire.faults c.sweep_down.new.wire in
    let there = sighted_released first mid board c.requires.board plain sighted holds ends in
    let fall = c.in_ok-fall.fall in
    swept first mid after board c.requires.board ends.board bus bus' (released first.board plain) c.len-2.result c.len-2.ensures c.args.keep c.answer_of.result c.from_vec.result
    (fell_with mid after bus bus' c.args.keep c.answer_of.result c.from_vec.result (released first.board plain) board (ends.board ∙ c.requires.board) fall.made
    (sweep_off mid.board (released first.board plain) (reverse (take c.len-2.result board.order))) fall.refused (c.in_ok-fall.ensures.falls (released first.board plain) there)
    c.answer_of.ensures.done c.answer_of.ensures.fault c.in_ok-fall.ensures.there
    (c.from_vec.ensures ∙ c.in_ok-fall.ensures.kept (released first.board plain) there
    ∙ ap (λ (writes : List Write). writes ++ (if c.args.keep then writes_of mid.board (take fall.made (sweep_off mid.board (released first.board plain) (reverse (take c.len-2.result board.order)))) else [])) c.new-writes.ensures.items))
