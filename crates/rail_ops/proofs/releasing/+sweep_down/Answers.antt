use Rattle.std.proofs.Common.{◌≡◌, ◌∷◌, ◌-◌, ◌+◌, ℕ, List, [], None, sym, ap, ◌∙◌, subst, arith, reverse, take}
use Rattle.std.specs.Prelude.{Contains, option_map, if◌then◌else◌, ◌++◌}
use Rattle.std.proofs.lemmas.List.Sums.{count_by-le-length}
use Rattle.std.proofs.lemmas.Result.{IfOk-weaker, err_from_is_err_and, on_err_weaker}
use Rattle.reg_outside.specs.Bus.{Bus, told_by}
use Rattle.board.specs.declared.rail.Rail.{Rail}
use Rattle.board.specs.declared.rail_id.RailId.{RailId}
use Rattle.board.specs.Rail.{is_on}
use Rattle.board.specs.Valid.{IsValid}
use Rattle.rail_law.specs.Moves.{writes_of}
use Rattle.plain_board.specs.declared.plain.Plain.{Plain}
use Rattle.plain_board.specs.Plan.{sweep_off, switch}
use Rattle.rail_ops.specs.declared.falling.Fall.{Fall}
use Rattle.rail_ops.specs.Sight.{shown_by}
use Rattle.rail_ops.specs.Inside.Falling.{CameDown, IsSighted, WentDown}
use Rattle.rail_ops.specs.Inside.Raised.{raised}
use Rattle.rail_ops.proofs.CameDown.{came_nothing, down_none}
use Rattle.rail_ops.proofs.CameUp.{all_the_same}
use Rattle.rail_ops.proofs.Found.{element}
use Rattle.rail_ops.proofs.Ready.{guarded}
use Rattle.rail_ops.proofs.Released.{owned_all}
use Rattle.rail_ops.proofs.SweepDown.{came_by, comes_further, free, goes_further, kept_by, kept_further, refuses, sighted_mid, sighted_seen, sweep_few, untried, went_by}
use Rattle.rail_ops.proofs.releasing.+sweep_down.Goals as goal

pub returns-then-left-eq0-clause-falls : goal.returns-then-left-eq0-clause-falls
returns-then-left-eq0-clause-falls g t c plain sighted =
    let hands = shown_by g.R.Rails.board g.R.Rails.rails g.R.Rails.bits g.R.Rails.states c.args.rails.now in
    came_nothing hands hands (told_by g.W.Wire.accepted g.W.Wire.plan g.W.Wire.faults c.args.wire.now) plain _ (ap (λ (n : ℕ). sweep_off hands.board plain (reverse (take n c.args.board.now.order))) c.if-left-eq0.true) sighted.shows (all_the_same hands)

pub seen_idle-requires-clause-guarded : goal.seen_idle-requires-clause-guarded
seen_idle-requires-clause-guarded g t c =
    guarded c.args.board.now c.requires.valid (g.R.Rails.rails c.args.rails.now) c.last_of-r.result.0 c.last_of-r.ensures.there (c.requires.held c.last_of-r.result.0 c.last_of-r.ensures.there)

pub sweep_down-requires : goal.sweep_down-requires
sweep_down-requires g t c κs within =
    let board = c.args.board.now in
    let first = shown_by g.R.Rails.board g.R.Rails.rails g.R.Rails.bits g.R.Rails.states c.args.rails.now in
    let seen = shown_by g.R.Rails.board g.R.Rails.rails g.R.Rails.bits g.R.Rails.states c.seen_idle.new.rails in
    let bus = told_by g.W.Wire.accepted g.W.Wire.plan g.W.Wire.faults c.args.wire.now in
    let all = reverse (take c.args.left board.order) in
    let fewer = reverse (take (c.args.left - 1) board.order) in
    let rail = element board.rails c.last_of-r.result.0 c.last_of-r.ensures.there in
    (omega (arith, c.decreases, c.if-left-eq0.false), (within.0, (within.1, (c.requires.valid, (c.requires.untied, (c.requires.places, (c.seen_idle.ensures.fits, (c.seen_idle.ensures.same.board ∙ c.requires.board, (omega (arith, c.requires.within), (λ i inside. subst (λ (rs : List ℕ). Contains rs i) (sym c.seen_idle.ensures.same.rails) (c.requires.held i inside), (c.requires.seen.0, sighted_seen first board c.requires.board c.requires.valid all c.last_of-r.result.0 fewer c.last_of-r.ensures.last rail.0 rail.1 c.requires.held seen c.seen_idle.ensures.same c.requires.seen.0 c.requires.seen.1)))))))))))

pub returns-then-not-seen_idle-clause-falls : goal.returns-then-not-seen_idle-clause-falls
returns-then-not-seen_idle-clause-falls g t c =
    let board = c.args.board.now in
    let first = shown_by g.R.Rails.board g.R.Rails.rails g.R.Rails.bits g.R.Rails.states c.args.rails.now in
    let seen = shown_by g.R.Rails.board g.R.Rails.rails g.R.Rails.bits g.R.Rails.states c.seen_idle.new.rails in
    let bus = told_by g.W.Wire.accepted g.W.Wire.plan g.W.Wire.faults c.args.wire.now in
    let all = reverse (take c.args.left board.order) in
    let fewer = reverse (take (c.args.left - 1) board.order) in
    let rail = element board.rails c.last_of-r.result.0 c.last_of-r.ensures.there in
    let after = shown_by g.R.Rails.board g.R.Rails.rails g.R.Rails.bits g.R.Rails.states c.sweep_down.new.rails in
    let bus' = told_by g.W.Wire.accepted g.W.Wire.plan g.W.Wire.faults c.sweep_down.new.wire in
    IfOk-weaker c.sweep_down.result
    (λ (fall : Fall). (plain : Plain) → IsSighted seen plain → CameDown seen after bus bus' fall.made (option_map (λ (id : RailId). id.0) fall.refused) plain (sweep_off seen.board plain fewer))
    (λ (fall : Fall). (plain : Plain) → IsSighted first plain → CameDown first after bus bus' fall.made (option_map (λ (id : RailId). id.0) fall.refused) plain (sweep_off first.board plain all))
    (λ fall falls plain sighted. came_by first board c.requires.board c.requires.valid all c.last_of-r.result.0 fewer c.last_of-r.ensures.last rail.0 rail.1 c.requires.held seen c.seen_idle.ensures.same plain sighted (sym c.seen_idle.ensures.value ∙ c.if-not-seen_idle.true) after bus bus' fall.made (option_map (λ (id : RailId). id.0) fall.refused) (falls plain (sighted_seen first board c.requires.board c.requires.valid all c.last_of-r.result.0 fewer c.last_of-r.ensures.last rail.0 rail.1 c.requires.held seen c.seen_idle.ensures.same plain sighted)))
    c.sweep_down.ensures.falls

pub returns-then-not-seen_idle-clause-kept : goal.returns-then-not-seen_idle-clause-kept
returns-then-not-seen_idle-clause-kept g t c =
    let board = c.args.board.now in
    let first = shown_by g.R.Rails.board g.R.Rails.rails g.R.Rails.bits g.R.Rails.states c.args.rails.now in
    let seen = shown_by g.R.Rails.board g.R.Rails.rails g.R.Rails.bits g.R.Rails.states c.seen_idle.new.rails in
    let bus = told_by g.W.Wire.accepted g.W.Wire.plan g.W.Wire.faults c.args.wire.now in
    let all = reverse (take c.args.left board.order) in
    let fewer = reverse (take (c.args.left - 1) board.order) in
    let rail = element board.rails c.last_of-r.result.0 c.last_of-r.ensures.there in
    let after = shown_by g.R.Rails.board g.R.Rails.rails g.R.Rails.bits g.R.Rails.states c.sweep_down.new.rails in
    let bus' = told_by g.W.Wire.accepted g.W.Wire.plan g.W.Wire.faults c.sweep_down.new.wire in
    IfOk-weaker c.sweep_down.result
    (λ (fall : Fall). (plain : Plain) → IsSighted seen plain → c.sweep_down.new.writes.items ≡ c.args.writes.now.items ++ (if c.args.keep then writes_of seen.board (take fall.made (sweep_off seen.board plain fewer)) else []))
    (λ (fall : Fall). (plain : Plain) → IsSighted first plain → c.sweep_down.new.writes.items ≡ c.args.writes.now.items ++ (if c.args.keep then writes_of first.board (take fall.made (sweep_off first.board plain all)) else []))
    (λ fall kept plain sighted. kept_by first board c.requires.board c.requires.valid all c.last_of-r.result.0 fewer c.last_of-r.ensures.last rail.0 rail.1 c.requires.held seen c.seen_idle.ensures.same plain sighted (sym c.seen_idle.ensures.value ∙ c.if-not-seen_idle.true) c.args.keep fall.made c.args.writes.now.items c.sweep_down.new.writes.items (kept plain (sighted_seen first board c.requires.board c.requires.valid all c.last_of-r.result.0 fewer c.last_of-r.ensures.last rail.0 rail.1 c.requires.held seen c.seen_idle.ensures.same plain sighted)))
    c.sweep_down.ensures.kept

pub returns-then-not-seen_idle-clause-err : goal.returns-then-not-seen_idle-clause-err
returns-then-not-seen_idle-clause-err g t c =
    let board = c.args.board.now in
    let first = shown_by g.R.Rails.board g.R.Rails.rails g.R.Rails.bits g.R.Rails.states c.args.rails.now in
    let seen = shown_by g.R.Rails.board g.R.Rails.rails g.R.Rails.bits g.R.Rails.states c.seen_idle.new.rails in
    let bus = told_by g.W.Wire.accepted g.W.Wire.plan g.W.Wire.faults c.args.wire.now in
    let all = reverse (take c.args.left board.order) in
    let fewer = reverse (take (c.args.left - 1) board.order) in
    let rail = element board.rails c.last_of-r.result.0 c.last_of-r.ensures.there in
    let after = shown_by g.R.Rails.board g.R.Rails.rails g.R.Rails.bits g.R.Rails.states c.sweep_down.new.rails in
    let bus' = told_by g.W.Wire.accepted g.W.Wire.plan g.W.Wire.faults c.sweep_down.new.wire in
    on_err_weaker c.sweep_down.result
    (λ went. (went.0, λ plain sighted. went_by first board c.requires.board c.requires.valid all c.last_of-r.result.0 fewer c.last_of-r.ensures.last rail.0 rail.1 c.requires.held seen c.seen_idle.ensures.same plain sighted (sym c.seen_idle.ensures.value ∙ c.if-not-seen_idle.true) after bus bus' went.0 None (went.1 plain (sighted_seen first board c.requires.board c.requires.valid all c.last_of-r.result.0 fewer c.last_of-r.ensures.last rail.0 rail.1 c.requires.held seen c.seen_idle.ensures.same plain sighted))))
    c.sweep_down.ensures.err

pub switch_off-requires-clause-held : goal.switch_off-requires-clause-held
switch_off-requires-clause-held g t c =
    subst (λ (rs : List ℕ). Contains rs c.last_of-r.result.0) (sym c.seen_idle.ensures.same.rails) (c.requires.held c.last_of-r.result.0 c.last_of-r.ensures.there)

pub switch_off-requires-clause-owned : goal.switch_off-requires-clause-owned
switch_off-requires-clause-owned g t c i guards =
    subst (λ (rs : List ℕ). Contains rs i) (sym c.seen_idle.ensures.same.rails)
    (owned_all c.args.board.now c.requires.valid (g.R.Rails.rails c.args.rails.now) c.requires.held c.last_of-r.result.0 i guards)

pub switch_off-requires-clause-free : goal.switch_off-requires-clause-free
switch_off-requires-clause-free g t c =
    let board = c.args.board.now in
    let first = shown_by g.R.Rails.board g.R.Rails.rails g.R.Rails.bits g.R.Rails.states c.args.rails.now in
    let seen = shown_by g.R.Rails.board g.R.Rails.rails g.R.Rails.bits g.R.Rails.states c.seen_idle.new.rails in
    let bus = told_by g.W.Wire.accepted g.W.Wire.plan g.W.Wire.faults c.args.wire.now in
    let all = reverse (take c.args.left board.order) in
    let fewer = reverse (take (c.args.left - 1) board.order) in
    let rail = element board.rails c.last_of-r.result.0 c.last_of-r.ensures.there in
    free first board c.requires.board c.requires.valid all c.last_of-r.result.0 fewer c.last_of-r.ensures.last rail.0 rail.1 c.requires.held seen c.seen_idle.ensures.same c.requires.seen.0 c.requires.seen.1 (sym c.seen_idle.ensures.value ∙ c.if-not-seen_idle.false)

pub returns-in_err-switch_off-clause-err : goal.returns-in_err-switch_off-clause-err
returns-in_err-switch_off-clause-err g t c =
    let exit = err_from_is_err_and c.from_residual.result c.from_residual.ensures.1 in
    rw exit.1 (
      0,
      λ plain sighted.
          let board = c.args.board.now in
          let first = shown_by g.R.Rails.board g.R.Rails.rails g.R.Rails.bits g.R.Rails.states c.args.rails.now in
          let seen = shown_by g.R.Rails.board g.R.Rails.rails g.R.Rails.bits g.R.Rails.states c.seen_idle.new.rails in
          let bus = told_by g.W.Wire.accepted g.W.Wire.plan g.W.Wire.faults c.args.wire.now in
          let all = reverse (take c.args.left board.order) in
          let fewer = reverse (take (c.args.left - 1) board.order) in
          let rail = element board.rails c.last_of-r.result.0 c.last_of-r.ensures.there in
          let mid = shown_by g.R.Rails.board g.R.Rails.rails g.R.Rails.bits g.R.Rails.states c.switch_off.new.rails in
          let bus' = told_by g.W.Wire.accepted g.W.Wire.plan g.W.Wire.faults c.switch_off.new.wire in
          subst (λ (b : Bus). WentDown first mid bus b 0 None plain (sweep_off first.board plain all)) (sym c.in_err-switch_off.ensures.untried)
          (untried first board c.requires.board c.requires.valid all c.last_of-r.result.0 fewer c.last_of-r.ensures.last rail.0 rail.1 c.requires.held seen c.seen_idle.ensures.same plain sighted (sym c.seen_idle.ensures.value ∙ c.if-not-seen_idle.false) mid bus c.in_err-switch_off.ensures.err),
    )

pub returns-then-not-branch-clause-falls : goal.returns-then-not-branch-clause-falls
returns-then-not-branch-clause-falls g t c plain sighted =
    let board = c.args.board.now in
    let first = shown_by g.R.Rails.board g.R.Rails.rails g.R.Rails.bits g.R.Rails.states c.args.rails.now in
    let seen = shown_by g.R.Rails.board g.R.Rails.rails g.R.Rails.bits g.R.Rails.states c.seen_idle.new.rails in
    let bus = told_by g.W.Wire.accepted g.W.Wire.plan g.W.Wire.faults c.args.wire.now in
    let all = reverse (take c.args.left board.order) in
    let fewer = reverse (take (c.args.left - 1) board.order) in
    let rail = element board.rails c.last_of-r.result.0 c.last_of-r.ensures.there in
    let mid = shown_by g.R.Rails.board g.R.Rails.rails g.R.Rails.bits g.R.Rails.states c.switch_off.new.rails in
    let bus' = told_by g.W.Wire.accepted g.W.Wire.plan g.W.Wire.faults c.switch_off.new.wire in
    refuses first board c.requires.board c.requires.valid all c.last_of-r.result.0 fewer c.last_of-r.ensures.last rail.0 rail.1 c.requires.held seen c.seen_idle.ensures.same plain sighted (sym c.seen_idle.ensures.value ∙ c.if-not-seen_idle.false) mid bus bus' (c.in_ok-switch_off.ensures.refused c.if-not-branch.true) (c.in_ok-switch_off.ensures.stopped c.if-not-branch.true)

pub returns-in_err-keep_off-clause-err : goal.returns-in_err-keep_off-clause-err
returns-in_err-keep_off-clause-err g t c =
    let exit = err_from_is_err_and c.from_residual-in_err-keep_off.result c.from_residual-in_err-keep_off.ensures.1 in
    rw exit.1 (
      1,
      λ plain sighted.
          let board = c.args.board.now in
          let first = shown_by g.R.Rails.board g.R.Rails.rails g.R.Rails.bits g.R.Rails.states c.args.rails.now in
          let seen = shown_by g.R.Rails.board g.R.Rails.rails g.R.Rails.bits g.R.Rails.states c.seen_idle.new.rails in
          let bus = told_by g.W.Wire.accepted g.W.Wire.plan g.W.Wire.faults c.args.wire.now in
          let all = reverse (take c.args.left board.order) in
          let fewer = reverse (take (c.args.left - 1) board.order) in
          let rail = element board.rails c.last_of-r.result.0 c.last_of-r.ensures.there in
          let mid = shown_by g.R.Rails.board g.R.Rails.rails g.R.Rails.bits g.R.Rails.states c.switch_off.new.rails in
          let bus' = told_by g.W.Wire.accepted g.W.Wire.plan g.W.Wire.faults c.switch_off.new.wire in
          let there = sighted_mid first board c.requires.board c.requires.valid all c.last_of-r.result.0 fewer c.last_of-r.ensures.last rail.0 rail.1 c.requires.held seen c.seen_idle.ensures.same plain sighted (sym c.seen_idle.ensures.value ∙ c.if-not-seen_idle.false) mid (c.in_ok-switch_off.ensures.made c.if-not-branch.false) in
          goes_further first board c.requires.board c.requires.valid all c.last_of-r.result.0 fewer c.last_of-r.ensures.last rail.0 rail.1 c.requires.held seen c.seen_idle.ensures.same plain sighted (sym c.seen_idle.ensures.value ∙ c.if-not-seen_idle.false) mid (c.in_ok-switch_off.ensures.made c.if-not-branch.false) mid bus bus' bus' (c.in_ok-switch_off.ensures.took c.if-not-branch.false) 0 None (down_none mid mid bus' (raised first.board plain (switch 0 c.last_of-r.result.0 ∷ [])) _ there.shows (all_the_same mid)),
    )

pub sweep_down-requires-2 : goal.sweep_down-requires-2
sweep_down-requires-2 g t c κs within =
    let board = c.args.board.now in
    let first = shown_by g.R.Rails.board g.R.Rails.rails g.R.Rails.bits g.R.Rails.states c.args.rails.now in
    let seen = shown_by g.R.Rails.board g.R.Rails.rails g.R.Rails.bits g.R.Rails.states c.seen_idle.new.rails in
    let bus = told_by g.W.Wire.accepted g.W.Wire.plan g.W.Wire.faults c.args.wire.now in
    let all = reverse (take c.args.left board.order) in
    let fewer = reverse (take (c.args.left - 1) board.order) in
    let rail = element board.rails c.last_of-r.result.0 c.last_of-r.ensures.there in
    let mid = shown_by g.R.Rails.board g.R.Rails.rails g.R.Rails.bits g.R.Rails.states c.switch_off.new.rails in
    let bus' = told_by g.W.Wire.accepted g.W.Wire.plan g.W.Wire.faults c.switch_off.new.wire in
    (omega (arith, c.decreases, c.if-left-eq0.false), (within.0, (within.1, (c.requires.valid, (c.requires.untied, (c.requires.places, (c.switch_off.ensures.fits, (c.in_ok-switch_off.ensures.board ∙ c.seen_idle.ensures.same.board ∙ c.requires.board, (omega (arith, c.requires.within), (λ i inside. subst (λ (rs : List ℕ). Contains rs i) (sym (c.in_ok-switch_off.ensures.rails ∙ c.seen_idle.ensures.same.rails)) (c.requires.held i inside), (raised first.board c.requires.seen.0 (switch 0 c.last_of-r.result.0 ∷ []), sighted_mid first board c.requires.board c.requires.valid all c.last_of-r.result.0 fewer c.last_of-r.ensures.last rail.0 rail.1 c.requires.held seen c.seen_idle.ensures.same c.requires.seen.0 c.requires.seen.1 (sym c.seen_idle.ensures.value ∙ c.if-not-seen_idle.false) mid (c.in_ok-switch_off.ensures.made c.if-not-branch.false))))))))))))

pub returns-in_err-rest-clause-err : goal.returns-in_err-rest-clause-err
returns-in_err-rest-clause-err g t c =
    let exit = err_from_is_err_and c.from_residual-in_err-rest.result c.from_residual-in_err-rest.ensures.1 in
    let went = c.in_err-rest.ensures.err in
    rw exit.1 (
      went.0 + 1,
      λ plain sighted.
          let board = c.args.board.now in
          let first = shown_by g.R.Rails.board g.R.Rails.rails g.R.Rails.bits g.R.Rails.states c.args.rails.now in
          let seen = shown_by g.R.Rails.board g.R.Rails.rails g.R.Rails.bits g.R.Rails.states c.seen_idle.new.rails in
          let bus = told_by g.W.Wire.accepted g.W.Wire.plan g.W.Wire.faults c.args.wire.now in
          let all = reverse (take c.args.left board.order) in
          let fewer = reverse (take (c.args.left - 1) board.order) in
          let rail = element board.rails c.last_of-r.result.0 c.last_of-r.ensures.there in
          let mid = shown_by g.R.Rails.board g.R.Rails.rails g.R.Rails.bits g.R.Rails.states c.switch_off.new.rails in
          let bus' = told_by g.W.Wire.accepted g.W.Wire.plan g.W.Wire.faults c.switch_off.new.wire in
          let after = shown_by g.R.Rails.board g.R.Rails.rails g.R.Rails.bits g.R.Rails.states c.sweep_down-2.new.rails in
          let bus'' = told_by g.W.Wire.accepted g.W.Wire.plan g.W.Wire.faults c.sweep_down-2.new.wire in
          goes_further first board c.requires.board c.requires.valid all c.last_of-r.result.0 fewer c.last_of-r.ensures.last rail.0 rail.1 c.requires.held seen c.seen_idle.ensures.same plain sighted (sym c.seen_idle.ensures.value ∙ c.if-not-seen_idle.false) mid (c.in_ok-switch_off.ensures.made c.if-not-branch.false) after bus bus' bus'' (c.in_ok-switch_off.ensures.took c.if-not-branch.false) went.0 None (went.1 (raised first.board plain (switch 0 c.last_of-r.result.0 ∷ [])) (sighted_mid first board c.requires.board c.requires.valid all c.last_of-r.result.0 fewer c.last_of-r.ensures.last rail.0 rail.1 c.requires.held seen c.seen_idle.ensures.same plain sighted (sym c.seen_idle.ensures.value ∙ c.if-not-seen_idle.false) mid (c.in_ok-switch_off.ensures.made c.if-not-branch.false))),
    )

pub overflow_add-result : goal.overflow_add-result
overflow_add-result g t c =
    let board = c.args.board.now in
    let first = shown_by g.R.Rails.board g.R.Rails.rails g.R.Rails.bits g.R.Rails.states c.args.rails.now in
    let seen = shown_by g.R.Rails.board g.R.Rails.rails g.R.Rails.bits g.R.Rails.states c.seen_idle.new.rails in
    let bus = told_by g.W.Wire.accepted g.W.Wire.plan g.W.Wire.faults c.args.wire.now in
    let all = reverse (take c.args.left board.order) in
    let fewer = reverse (take (c.args.left - 1) board.order) in
    let rail = element board.rails c.last_of-r.result.0 c.last_of-r.ensures.there in
    let mid = shown_by g.R.Rails.board g.R.Rails.rails g.R.Rails.bits g.R.Rails.states c.switch_off.new.rails in
    let bus' = told_by g.W.Wire.accepted g.W.Wire.plan g.W.Wire.faults c.switch_off.new.wire in
    let plain = c.requires.seen.0 in
    let there = sighted_mid first board c.requires.board c.requires.valid all c.last_of-r.result.0 fewer c.last_of-r.ensures.last rail.0 rail.1 c.requires.held seen c.seen_idle.ensures.same c.requires.seen.0 c.requires.seen.1 (sym c.seen_idle.ensures.value ∙ c.if-not-seen_idle.false) mid (c.in_ok-switch_off.ensures.made c.if-not-branch.false) in
    let same : mid.board ≡ board = c.in_ok-switch_off.ensures.board ∙ c.seen_idle.ensures.same.board ∙ c.requires.board in
    let valid = subst IsValid (sym same) c.requires.valid in
    let came = c.in_ok-rest.ensures.falls (raised first.board plain (switch 0 c.last_of-r.result.0 ∷ [])) there in
    let within = came.went.within in
    let few = sweep_few mid.board valid.sound (raised first.board plain (switch 0 c.last_of-r.result.0 ∷ [])) there.chips there.hold fewer in
    let most = count_by-le-length (λ (a : Rail). is_on a (raised first.board plain (switch 0 c.last_of-r.result.0 ∷ [])).regs) mid.board.rails in
    let count = valid.sound.few in
    omega (arith, within, few, most, count)

pub returns-clause-falls : goal.returns-clause-falls
returns-clause-falls g t c plain sighted =
    let board = c.args.board.now in
    let first = shown_by g.R.Rails.board g.R.Rails.rails g.R.Rails.bits g.R.Rails.states c.args.rails.now in
    let seen = shown_by g.R.Rails.board g.R.Rails.rails g.R.Rails.bits g.R.Rails.states c.seen_idle.new.rails in
    let bus = told_by g.W.Wire.accepted g.W.Wire.plan g.W.Wire.faults c.args.wire.now in
    let all = reverse (take c.args.left board.order) in
    let fewer = reverse (take (c.args.left - 1) board.order) in
    let rail = element board.rails c.last_of-r.result.0 c.last_of-r.ensures.there in
    let mid = shown_by g.R.Rails.board g.R.Rails.rails g.R.Rails.bits g.R.Rails.states c.switch_off.new.rails in
    let bus' = told_by g.W.Wire.accepted g.W.Wire.plan g.W.Wire.faults c.switch_off.new.wire in
    let after = shown_by g.R.Rails.board g.R.Rails.rails g.R.Rails.bits g.R.Rails.states c.sweep_down-2.new.rails in
    let bus'' = told_by g.W.Wire.accepted g.W.Wire.plan g.W.Wire.faults c.sweep_down-2.new.wire in
    comes_further first board c.requires.board c.requires.valid all c.last_of-r.result.0 fewer c.last_of-r.ensures.last rail.0 rail.1 c.requires.held seen c.seen_idle.ensures.same plain sighted (sym c.seen_idle.ensures.value ∙ c.if-not-seen_idle.false) mid (c.in_ok-switch_off.ensures.made c.if-not-branch.false) after bus bus' bus'' (c.in_ok-switch_off.ensures.took c.if-not-branch.false) c.in_ok-rest.rest.made (option_map (λ (id : RailId). id.0) c.in_ok-rest.rest.refused)
    (c.in_ok-rest.ensures.falls (raised first.board plain (switch 0 c.last_of-r.result.0 ∷ [])) (sighted_mid first board c.requires.board c.requires.valid all c.last_of-r.result.0 fewer c.last_of-r.ensures.last rail.0 rail.1 c.requires.held seen c.seen_idle.ensures.same plain sighted (sym c.seen_idle.ensures.value ∙ c.if-not-seen_idle.false) mid (c.in_ok-switch_off.ensures.made c.if-not-branch.false)))

pub returns-clause-kept : goal.returns-clause-kept
returns-clause-kept g t c plain sighted =
    let board = c.args.board.now in
    let first = shown_by g.R.Rails.board g.R.Rails.rails g.R.Rails.bits g.R.Rails.states c.args.rails.now in
    let seen = shown_by g.R.Rails.board g.R.Rails.rails g.R.Rails.bits g.R.Rails.states c.seen_idle.new.rails in
    let bus = told_by g.W.Wire.accepted g.W.Wire.plan g.W.Wire.faults c.args.wire.now in
    let all = reverse (take c.args.left board.order) in
    let fewer = reverse (take (c.args.left - 1) board.order) in
    let rail = element board.rails c.last_of-r.result.0 c.last_of-r.ensures.there in
    let mid = shown_by g.R.Rails.board g.R.Rails.rails g.R.Rails.bits g.R.Rails.states c.switch_off.new.rails in
    let bus' = told_by g.W.Wire.accepted g.W.Wire.plan g.W.Wire.faults c.switch_off.new.wire in
    let after = shown_by g.R.Rails.board g.R.Rails.rails g.R.Rails.bits g.R.Rails.states c.sweep_down-2.new.rails in
    let bus'' = told_by g.W.Wire.accepted g.W.Wire.plan g.W.Wire.faults c.sweep_down-2.new.wire in
    kept_further first board c.requires.board c.requires.valid all c.last_of-r.result.0 fewer c.last_of-r.ensures.last c.rail_at.result.now c.rail_at.ensures c.requires.held seen c.seen_idle.ensures.same plain sighted (sym c.seen_idle.ensures.value ∙ c.if-not-seen_idle.false) mid (c.in_ok-switch_off.ensures.made c.if-not-branch.false) c.args.keep c.in_ok-rest.rest.made c.args.writes.now.items c.keep_off.new.writes.items c.sweep_down-2.new.writes.items c.in_ok-keep_off.ensures
    (c.in_ok-rest.ensures.kept (raised first.board plain (switch 0 c.last_of-r.result.0 ∷ [])) (sighted_mid first board c.requires.board c.requires.valid all c.last_of-r.result.0 fewer c.last_of-r.ensures.last c.rail_at.result.now c.rail_at.ensures c.requires.held seen c.seen_idle.ensures.same plain sighted (sym c.seen_idle.ensures.value ∙ c.if-not-seen_idle.false) mid (c.in_ok-switch_off.ensures.made c.if-not-branch.false)))
