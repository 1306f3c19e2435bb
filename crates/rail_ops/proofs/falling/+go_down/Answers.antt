use Rattle.std.proofs.Common.{◌≡◌, ◌∷◌, ◌-◌, ◌+◌, ℕ, List, [], Option, None, sym, ap, ◌∙◌, subst, arith, All}
use Rattle.std.specs.Prelude.{Contains, option_map}
use Rattle.std.proofs.lemmas.Result.{err_from_is_err_and}
use Rattle.reg_outside.specs.Bus.{Bus, told_by}
use Rattle.board.specs.declared.rail_id.RailId.{RailId}
use Rattle.rail_state.specs.Sight.{IsOwned}
use Rattle.plain_board.specs.Plan.{chain_off, switch, upward}
use Rattle.rail_ops.specs.Sight.{shown_by}
use Rattle.rail_ops.specs.Inside.Falling.{WentDown}
use Rattle.rail_ops.specs.Inside.Raised.{raised}
use Rattle.rail_ops.proofs.CameDown.{came_nothing}
use Rattle.rail_ops.proofs.CameUp.{all_the_same}
use Rattle.rail_ops.proofs.WayDown.{comes_further, free, goes_further, has, has_seen, leads, refuses, rest_held, sighted_mid, stays_on, untried, watched}
use Rattle.rail_ops.proofs.Ways.{first_of, leads_above, nothing_above, rest_of, supply_there, way_long}
use Rattle.rail_ops.proofs.falling.+go_down.Goals as goal

pub returns-in_default-clause-falls : goal.returns-in_default-clause-falls
returns-in_default-clause-falls g t c plain sighted =
    let hands = shown_by g.R.Rails.board g.R.Rails.rails g.R.Rails.bits g.R.Rails.states c.args.rails.now in
    let none : upward c.args.board.now.graph c.args.most (option_map (λ (id : RailId). id.0) c.args.r) ≡ [] =
    ap (λ (o : Option RailId). upward c.args.board.now.graph c.args.most (option_map (λ (id : RailId). id.0) o)) c.in_default.is ∙ nothing_above c.args.board.now.graph c.args.most in
    came_nothing hands hands (told_by g.W.Wire.accepted g.W.Wire.plan g.W.Wire.faults c.args.wire.now) plain _ (ap (chain_off hands.board plain) none) sighted.shows (all_the_same hands)

pub seen_idle-requires-clause-held : goal.seen_idle-requires-clause-held
seen_idle-requires-clause-held g t c =
    let board = c.args.board.now in
    let first = shown_by g.R.Rails.board g.R.Rails.rails g.R.Rails.bits g.R.Rails.states c.args.rails.now in
    let rail = c.rail_at-rail.result.now in
    has first board c.requires.board c.requires.valid c.args.most c.args.r c.in-Some.r c.in-Some.is rail c.rail_at-rail.ensures c.requires.up c.requires.held

pub seen_idle-requires-clause-guarded : goal.seen_idle-requires-clause-guarded
seen_idle-requires-clause-guarded g t c =
    let board = c.args.board.now in
    let first = shown_by g.R.Rails.board g.R.Rails.rails g.R.Rails.bits g.R.Rails.states c.args.rails.now in
    let rail = c.rail_at-rail.result.now in
    watched first board c.requires.board c.requires.valid c.args.most c.args.r c.in-Some.r c.in-Some.is rail c.rail_at-rail.ensures c.requires.up c.requires.held

pub returns-then-not-seen_idle-clause-falls : goal.returns-then-not-seen_idle-clause-falls
returns-then-not-seen_idle-clause-falls g t c plain sighted =
    let board = c.args.board.now in
    let first = shown_by g.R.Rails.board g.R.Rails.rails g.R.Rails.bits g.R.Rails.states c.args.rails.now in
    let rail = c.rail_at-rail.result.now in
    let seen = shown_by g.R.Rails.board g.R.Rails.rails g.R.Rails.bits g.R.Rails.states c.seen_idle.new.rails in
    let bus = told_by g.W.Wire.accepted g.W.Wire.plan g.W.Wire.faults c.args.wire.now in
    stays_on first board c.requires.board c.requires.valid c.args.most c.args.r c.in-Some.r c.in-Some.is rail c.rail_at-rail.ensures c.requires.up c.requires.held seen c.seen_idle.ensures.same plain sighted bus (sym c.seen_idle.ensures.value ∙ c.if-not-seen_idle.true)

pub switch_off-requires-clause-held : goal.switch_off-requires-clause-held
switch_off-requires-clause-held g t c =
    let board = c.args.board.now in
    let first = shown_by g.R.Rails.board g.R.Rails.rails g.R.Rails.bits g.R.Rails.states c.args.rails.now in
    let rail = c.rail_at-rail.result.now in
    let seen = shown_by g.R.Rails.board g.R.Rails.rails g.R.Rails.bits g.R.Rails.states c.seen_idle.new.rails in
    let bus = told_by g.W.Wire.accepted g.W.Wire.plan g.W.Wire.faults c.args.wire.now in
    has_seen first board c.requires.board c.requires.valid c.args.most c.args.r c.in-Some.r c.in-Some.is rail c.rail_at-rail.ensures c.requires.up c.requires.held seen c.seen_idle.ensures.same

pub switch_off-requires-clause-owned : goal.switch_off-requires-clause-owned
switch_off-requires-clause-owned g t c i guards =
    let board = c.args.board.now in
    let first = shown_by g.R.Rails.board g.R.Rails.rails g.R.Rails.bits g.R.Rails.states c.args.rails.now in
    let rail = c.rail_at-rail.result.now in
    let up = leads first board c.requires.board c.requires.valid c.args.most c.args.r c.in-Some.r c.in-Some.is rail c.rail_at-rail.ensures c.requires.up c.requires.held in
    let owned = subst (λ (o : Option RailId). All (IsOwned board (g.R.Rails.rails c.args.rails.now)) (upward board.graph c.args.most (option_map (λ (id : RailId). id.0) o))) c.in-Some.is c.requires.owned in
    subst (λ (rs : List ℕ). Contains rs i) (sym c.seen_idle.ensures.same.rails)
    (first_of board c.requires.valid c.args.most c.in-Some.r.0 rail c.rail_at-rail.ensures up (IsOwned board (g.R.Rails.rails c.args.rails.now)) owned i guards)

pub switch_off-requires-clause-free : goal.switch_off-requires-clause-free
switch_off-requires-clause-free g t c =
    let board = c.args.board.now in
    let first = shown_by g.R.Rails.board g.R.Rails.rails g.R.Rails.bits g.R.Rails.states c.args.rails.now in
    let rail = c.rail_at-rail.result.now in
    let seen = shown_by g.R.Rails.board g.R.Rails.rails g.R.Rails.bits g.R.Rails.states c.seen_idle.new.rails in
    let bus = told_by g.W.Wire.accepted g.W.Wire.plan g.W.Wire.faults c.args.wire.now in
    free first board c.requires.board c.requires.valid c.args.most c.args.r c.in-Some.r c.in-Some.is rail c.rail_at-rail.ensures c.requires.up c.requires.held seen c.seen_idle.ensures.same c.requires.seen.0 c.requires.seen.1 (sym c.seen_idle.ensures.value ∙ c.if-not-seen_idle.false)

pub returns-in_err-switch_off-clause-err : goal.returns-in_err-switch_off-clause-err
returns-in_err-switch_off-clause-err g t c =
    let exit = err_from_is_err_and c.from_residual.result c.from_residual.ensures.1 in
    rw exit.1 (
      0,
      λ plain sighted.
          let board = c.args.board.now in
          let first = shown_by g.R.Rails.board g.R.Rails.rails g.R.Rails.bits g.R.Rails.states c.args.rails.now in
          let rail = c.rail_at-rail.result.now in
          let seen = shown_by g.R.Rails.board g.R.Rails.rails g.R.Rails.bits g.R.Rails.states c.seen_idle.new.rails in
          let bus = told_by g.W.Wire.accepted g.W.Wire.plan g.W.Wire.faults c.args.wire.now in
          let mid = shown_by g.R.Rails.board g.R.Rails.rails g.R.Rails.bits g.R.Rails.states c.switch_off.new.rails in
          let bus' = told_by g.W.Wire.accepted g.W.Wire.plan g.W.Wire.faults c.switch_off.new.wire in
          subst (λ (b : Bus). WentDown first mid bus b 0 None plain (chain_off first.board plain (upward board.graph c.args.most (option_map (λ (id : RailId). id.0) c.args.r)))) (sym c.in_err-switch_off.ensures.untried)
          (untried first board c.requires.board c.requires.valid c.args.most c.args.r c.in-Some.r c.in-Some.is rail c.rail_at-rail.ensures c.requires.up c.requires.held seen c.seen_idle.ensures.same plain sighted (sym c.seen_idle.ensures.value ∙ c.if-not-seen_idle.false) mid bus c.in_err-switch_off.ensures.err),
    )

pub returns-then-not-branch-clause-falls : goal.returns-then-not-branch-clause-falls
returns-then-not-branch-clause-falls g t c plain sighted =
    let board = c.args.board.now in
    let first = shown_by g.R.Rails.board g.R.Rails.rails g.R.Rails.bits g.R.Rails.states c.args.rails.now in
    let rail = c.rail_at-rail.result.now in
    let seen = shown_by g.R.Rails.board g.R.Rails.rails g.R.Rails.bits g.R.Rails.states c.seen_idle.new.rails in
    let bus = told_by g.W.Wire.accepted g.W.Wire.plan g.W.Wire.faults c.args.wire.now in
    let mid = shown_by g.R.Rails.board g.R.Rails.rails g.R.Rails.bits g.R.Rails.states c.switch_off.new.rails in
    let bus' = told_by g.W.Wire.accepted g.W.Wire.plan g.W.Wire.faults c.switch_off.new.wire in
    refuses first board c.requires.board c.requires.valid c.args.most c.args.r c.in-Some.r c.in-Some.is rail c.rail_at-rail.ensures c.requires.up c.requires.held seen c.seen_idle.ensures.same plain sighted (sym c.seen_idle.ensures.value ∙ c.if-not-seen_idle.false) mid bus bus'
    (c.in_ok-switch_off.ensures.refused c.if-not-branch.true) (c.in_ok-switch_off.ensures.stopped c.if-not-branch.true)

pub go_down-requires : goal.go_down-requires
go_down-requires g t c κs within =
    let board = c.args.board.now in
    let first = shown_by g.R.Rails.board g.R.Rails.rails g.R.Rails.bits g.R.Rails.states c.args.rails.now in
    let rail = c.rail_at-rail.result.now in
    let seen = shown_by g.R.Rails.board g.R.Rails.rails g.R.Rails.bits g.R.Rails.states c.seen_idle.new.rails in
    let bus = told_by g.W.Wire.accepted g.W.Wire.plan g.W.Wire.faults c.args.wire.now in
    let mid = shown_by g.R.Rails.board g.R.Rails.rails g.R.Rails.bits g.R.Rails.states c.switch_off.new.rails in
    let bus' = told_by g.W.Wire.accepted g.W.Wire.plan g.W.Wire.faults c.switch_off.new.wire in
    let up = leads first board c.requires.board c.requires.valid c.args.most c.args.r c.in-Some.r c.in-Some.is rail c.rail_at-rail.ensures c.requires.up c.requires.held in
    let owned = subst (λ (o : Option RailId). All (IsOwned board (g.R.Rails.rails c.args.rails.now)) (upward board.graph c.args.most (option_map (λ (id : RailId). id.0) o))) c.in-Some.is c.requires.owned in
    let long = way_long board c.requires.valid c.args.most c.in-Some.r.0 rail c.rail_at-rail.ensures up in
    let higher = upward board.graph (c.args.most - 1) (option_map (λ (id : RailId). id.0) rail.supply) in
    let rails_same = c.in_ok-switch_off.ensures.rails ∙ c.seen_idle.ensures.same.rails in
    (omega (arith, c.decreases, long), (within.0, (within.1, (c.requires.valid, (c.requires.untied, (c.requires.places, (c.switch_off.ensures.fits, (c.switch_off.ensures.board ∙ c.seen_idle.ensures.same.board ∙ c.requires.board, (supply_there board c.requires.valid c.args.most c.in-Some.r.0 rail c.rail_at-rail.ensures up, (omega (arith, c.requires.few), (leads_above board c.requires.valid c.args.most c.in-Some.r.0 rail c.rail_at-rail.ensures up, (subst (λ (rs : List ℕ). All (λ i. Contains rs i) higher) (sym rails_same) (rest_held first board c.requires.board c.requires.valid c.args.most c.args.r c.in-Some.r c.in-Some.is rail c.rail_at-rail.ensures c.requires.up c.requires.held), (subst (λ (rs : List ℕ). All (IsOwned board rs) higher) (sym rails_same) (rest_of board c.requires.valid c.args.most c.in-Some.r.0 rail c.rail_at-rail.ensures up (IsOwned board (g.R.Rails.rails c.args.rails.now)) owned), (raised first.board c.requires.seen.0 (switch 0 c.in-Some.r.0 ∷ []), sighted_mid first board c.requires.board c.requires.valid c.args.most c.args.r c.in-Some.r c.in-Some.is rail c.rail_at-rail.ensures c.requires.up c.requires.held seen c.seen_idle.ensures.same c.requires.seen.0 c.requires.seen.1 (sym c.seen_idle.ensures.value ∙ c.if-not-seen_idle.false) mid (c.in_ok-switch_off.ensures.made c.if-not-branch.false)))))))))))))))

pub returns-in_err-above-clause-err : goal.returns-in_err-above-clause-err
returns-in_err-above-clause-err g t c =
    let exit = err_from_is_err_and c.from_residual-in_err-above.result c.from_residual-in_err-above.ensures.1 in
    let went = c.in_err-above.ensures.err in
    rw exit.1 (
      went.0 + 1,
      λ plain sighted.
          let board = c.args.board.now in
          let first = shown_by g.R.Rails.board g.R.Rails.rails g.R.Rails.bits g.R.Rails.states c.args.rails.now in
          let rail = c.rail_at-rail.result.now in
          let seen = shown_by g.R.Rails.board g.R.Rails.rails g.R.Rails.bits g.R.Rails.states c.seen_idle.new.rails in
          let bus = told_by g.W.Wire.accepted g.W.Wire.plan g.W.Wire.faults c.args.wire.now in
          let mid = shown_by g.R.Rails.board g.R.Rails.rails g.R.Rails.bits g.R.Rails.states c.switch_off.new.rails in
          let bus' = told_by g.W.Wire.accepted g.W.Wire.plan g.W.Wire.faults c.switch_off.new.wire in
          let after = shown_by g.R.Rails.board g.R.Rails.rails g.R.Rails.bits g.R.Rails.states c.go_down.new.rails in
          let bus'' = told_by g.W.Wire.accepted g.W.Wire.plan g.W.Wire.faults c.go_down.new.wire in
          goes_further first board c.requires.board c.requires.valid c.args.most c.args.r c.in-Some.r c.in-Some.is rail c.rail_at-rail.ensures c.requires.up c.requires.held seen c.seen_idle.ensures.same plain sighted (sym c.seen_idle.ensures.value ∙ c.if-not-seen_idle.false) mid (c.in_ok-switch_off.ensures.made c.if-not-branch.false) after bus bus' bus'' (c.in_ok-switch_off.ensures.took c.if-not-branch.false) went.0 None
          (went.1 (raised first.board plain (switch 0 c.in-Some.r.0 ∷ [])) (sighted_mid first board c.requires.board c.requires.valid c.args.most c.args.r c.in-Some.r c.in-Some.is rail c.rail_at-rail.ensures c.requires.up c.requires.held seen c.seen_idle.ensures.same plain sighted (sym c.seen_idle.ensures.value ∙ c.if-not-seen_idle.false) mid (c.in_ok-switch_off.ensures.made c.if-not-branch.false))),
    )

pub returns-clause-falls : goal.returns-clause-falls
returns-clause-falls g t c plain sighted =
    let board = c.args.board.now in
    let first = shown_by g.R.Rails.board g.R.Rails.rails g.R.Rails.bits g.R.Rails.states c.args.rails.now in
    let rail = c.rail_at-rail.result.now in
    let seen = shown_by g.R.Rails.board g.R.Rails.rails g.R.Rails.bits g.R.Rails.states c.seen_idle.new.rails in
    let bus = told_by g.W.Wire.accepted g.W.Wire.plan g.W.Wire.faults c.args.wire.now in
    let mid = shown_by g.R.Rails.board g.R.Rails.rails g.R.Rails.bits g.R.Rails.states c.switch_off.new.rails in
    let bus' = told_by g.W.Wire.accepted g.W.Wire.plan g.W.Wire.faults c.switch_off.new.wire in
    let after = shown_by g.R.Rails.board g.R.Rails.rails g.R.Rails.bits g.R.Rails.states c.go_down.new.rails in
    let bus'' = told_by g.W.Wire.accepted g.W.Wire.plan g.W.Wire.faults c.go_down.new.wire in
    comes_further first board c.requires.board c.requires.valid c.args.most c.args.r c.in-Some.r c.in-Some.is rail c.rail_at-rail.ensures c.requires.up c.requires.held seen c.seen_idle.ensures.same plain sighted (sym c.seen_idle.ensures.value ∙ c.if-not-seen_idle.false) mid (c.in_ok-switch_off.ensures.made c.if-not-branch.false) after bus bus' bus'' (c.in_ok-switch_off.ensures.took c.if-not-branch.false) c.in_ok-above.above.made (option_map (λ (id : RailId). id.0) c.in_ok-above.above.refused)
    (c.in_ok-above.ensures.falls (raised first.board plain (switch 0 c.in-Some.r.0 ∷ [])) (sighted_mid first board c.requires.board c.requires.valid c.args.most c.args.r c.in-Some.r c.in-Some.is rail c.rail_at-rail.ensures c.requires.up c.requires.held seen c.seen_idle.ensures.same plain sighted (sym c.seen_idle.ensures.value ∙ c.if-not-seen_idle.false) mid (c.in_ok-switch_off.ensures.made c.if-not-branch.false)))

pub returns-clause-few : goal.returns-clause-few
returns-clause-few g t c =
    let board = c.args.board.now in
    let first = shown_by g.R.Rails.board g.R.Rails.rails g.R.Rails.bits g.R.Rails.states c.args.rails.now in
    let rail = c.rail_at-rail.result.now in
    let up = leads first board c.requires.board c.requires.valid c.args.most c.args.r c.in-Some.r c.in-Some.is rail c.rail_at-rail.ensures c.requires.up c.requires.held in
    let owned = subst (λ (o : Option RailId). All (IsOwned board (g.R.Rails.rails c.args.rails.now)) (upward board.graph c.args.most (option_map (λ (id : RailId). id.0) o))) c.in-Some.is c.requires.owned in
    let long = way_long board c.requires.valid c.args.most c.in-Some.r.0 rail c.rail_at-rail.ensures up in
    omega (arith, long, c.in_ok-above.ensures.few)
