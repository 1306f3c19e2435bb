use Rattle.std.proofs.Common.{ℕ, List, Some, sym, ap, ◌∙◌, subst, take, All}
use Rattle.std.specs.Prelude.{Contains, option_map}
use Rattle.std.proofs.lemmas.Result.{err_from_is_err_and}
use Rattle.reg_outside.specs.Bus.{told_by}
use Rattle.board.specs.declared.rail_id.RailId.{RailId}
use Rattle.board.specs.declared.write.Write.{Write}
use Rattle.rail_state.specs.Sight.{IsOwned}
use Rattle.plain_board.specs.Plan.{chain_off, upward}
use Rattle.rail_ops.specs.Sight.{shown_by}
use Rattle.rail_ops.specs.Inside.Falling.{CameDown}
use Rattle.rail_ops.specs.Inside.Rising.{LeadsUp}
use Rattle.rail_ops.proofs.CameDown.{down_none}
use Rattle.rail_ops.proofs.CameUp.{all_the_same}
use Rattle.rail_ops.proofs.Chains.{leads_up}
use Rattle.rail_ops.proofs.GoneDown.{fell}
use Rattle.rail_ops.proofs.disabling.take_down.Goals as goal

pub returns-in_err-writes-clause-err : goal.returns-in_err-writes-clause-err
returns-in_err-writes-clause-err g c =
    let first = shown_by g.R.Rails.board g.R.Rails.rails g.R.Rails.bits g.R.Rails.states c.args.rails.now in
    let bus = told_by g.W.Wire.accepted g.W.Wire.plan g.W.Wire.faults c.args.wire.now in
    let exit = err_from_is_err_and c.from_residual.result c.from_residual.ensures.1 in
    rw exit.1 (0, λ plain sighted. down_none first first bus plain _ sighted.shows (all_the_same first))

pub go_down-requires-clause-up : goal.go_down-requires-clause-up
go_down-requires-clause-up g c = subst (λ (n : ℕ). LeadsUp c.args.board.now n (Some c.args.r.0)) (sym c.len.ensures) (leads_up c.args.board.now c.requires.valid c.args.r.0 c.requires.there)

pub go_down-requires-clause-held : goal.go_down-requires-clause-held
go_down-requires-clause-held g c =
    subst (λ (n : ℕ). All (λ i. Contains (g.R.Rails.rails c.args.rails.now) i) (upward c.args.board.now.graph n (Some c.args.r.0))) (sym c.len.ensures) c.requires.held

pub go_down-requires-clause-owned : goal.go_down-requires-clause-owned
go_down-requires-clause-owned g c =
    subst (λ (n : ℕ). All (IsOwned c.args.board.now (g.R.Rails.rails c.args.rails.now)) (upward c.args.board.now.graph n (Some c.args.r.0))) (sym c.len.ensures) c.requires.owned

pub returns-clause-fell : goal.returns-clause-fell
returns-clause-fell g c plain sighted =
    let first = shown_by g.R.Rails.board g.R.Rails.rails g.R.Rails.bits g.R.Rails.states c.args.rails.now in
    let after = shown_by g.R.Rails.board g.R.Rails.rails g.R.Rails.bits g.R.Rails.states c.go_down.new.rails in
    let bus = told_by g.W.Wire.accepted g.W.Wire.plan g.W.Wire.faults c.args.wire.now in
    let bus' = told_by g.W.Wire.accepted g.W.Wire.plan g.W.Wire.faults c.go_down.new.wire in
    let refused = option_map (λ (id : RailId). id.0) c.in_ok-fall.fall.refused in
    fell first after bus bus' c.args.keep c.answer_of.result c.from_vec.result plain c.args.board.now c.requires.board c.in_ok-fall.fall.made c.args.r.0 c.in_ok-fall.fall.refused
    (subst (λ (n : ℕ). CameDown first after bus bus' c.in_ok-fall.fall.made refused plain (chain_off first.board plain (upward c.args.board.now.graph n (Some c.args.r.0)))) c.len.ensures
    (c.in_ok-fall.ensures.falls plain sighted))
    c.answer_of.ensures.done c.answer_of.ensures.fault c.in_ok-fall.ensures.there
    (c.from_vec.ensures ∙ c.truncate.ensures.items ∙ ap (λ (writes : List Write). take c.in_ok-fall.fall.made writes) c.in_ok-writes.ensures.writes)
