use Rattle.std.proofs.Common.{◌≡◌, ℕ, [], ◌∷◌, false, eqb, length, map, take, ◌++◌, sym, subst, ap, ◌∙◌, arith}
use Rattle.std.specs.Prelude.{◌==◌, if◌then◌else◌}
use Rattle.std.proofs.lemmas.Bool.Decides.{nat_tests}
use Rattle.std.proofs.lemmas.List.{length-map}
use Rattle.ramp_delay.specs.Times.{time_of}
use Rattle.rows.specs.declared.answer.Answer.TheVariants.{OkSet, Fault}
use Rattle.board.specs.declared.event.Event.TheVariants.{PreVoltageChange, VoltageChange, AbortVoltageChange}
use Rattle.board.specs.declared.rail.Rail.{Rail}
use Rattle.board.specs.Desc.{ArePlaced}
use Rattle.board.specs.Rail.{uv}
use Rattle.board.specs.Valid.{IsValid}
use Rattle.plain_board.specs.Handles.{with_row}
use Rattle.plain_board.specs.Answer.{with_request}
use Rattle.plain_board.specs.Untied.{IsUntied, HoldFields}
use Rattle.rail_law.specs.Law.{Law}
use Rattle.rail_law.specs.Moves.{after_moves}
use Rattle.regulator_main.specs.Desk.{Moves}
use Rattle.regulator_main.specs.Inside.Way.{moves_to}
use Rattle.regulator_main.specs.Walk.{Makes}
use Rattle.regulator_main.proofs.LoneBoard.{lone_board, first}
use Rattle.regulator_main.proofs.LoneEntry.{board-is, entry-first, events-here}
use Rattle.regulator_main.proofs.LoneGoal.{lone_goal, lone_untied}
use Rattle.regulator_main.proofs.LoneMoves.{told_of, moves-still, moves-arrived, moves-stopped}
use Rattle.regulator_main.proofs.LoneSet.{changed}
use Rattle.regulator_main.proofs.Tries.{tried_still, tried_first}
use Rattle.regulator_main.proofs.Walked.{moves_to-there}
use Rattle.regulator_main.proofs.desk.move_to.Given as given
use Rattle.regulator_main.proofs.desk.move_to.Goals as goal
use Rattle.regulator_main.proofs.desk.move_to.Goals.{After-uv-before, After-settle-settled, In_ok-tell_end}

-- the board, written out
board_of : (g : given.Over) (c : After-uv-before g) → c.args.board.now ≡ lone_board c.args.rail.now c.args.board.now.chips
board_of g c = board-is c.args.board.now c.requires.lone c.args.rail.now c.requires.rail

-- after all moves the rail stands at the target
arrives : (g : given.Over) (c : After-uv-before g)
    → uv c.args.rail.now (after_moves (lone_board c.args.rail.now c.args.board.now.chips) c.args.plain.now.regs (moves_to first c.args.rail.now (uv c.args.rail.now c.args.plain.now.regs) c.args.target)) ≡ c.args.target
arrives g c =
    let board = c.args.board.now in
    let plain = c.args.plain.now in
    lone_goal c.args.rail.now board.chips plain.regs c.args.target
    (subst IsValid (board_of g c) c.requires.valid) (subst IsUntied (board_of g c) (lone_untied board c.requires.lone)) (subst (λ b. HoldFields b plain.regs) (board_of g c) c.requires.fields)
    c.requires.inv.kept.regs (subst (λ b. Law b plain.regs) (board_of g c) c.requires.inv.law) c.requires.allowed

pub returns-then-before-target : goal.returns-then-before-target
returns-then-before-target g c =
    let rail = c.args.rail.now in
    let board = c.args.board.now in
    let plain = c.args.plain.now in
    let d = (goal.at.returns-then-before-target g c).After-uv-before in
    let events = events-here board c.requires.lone plain c.requires.inv in
    record {
      moves = subst (λ b. Moves b plain (record plain { handles = c.put_request.new.handles }) c.args.worker c.args.handle.now c.args.request rail c.args.target (OkSet c.args.target c.from-delay.result) (g.W.Wire.accepted c.args.wire.now) (g.W.Wire.accepted c.args.wire.now) (g.W.Wire.faults c.args.wire.now) (g.W.Wire.faults c.args.wire.now)) (sym (board_of g d))
          (moves-still rail board.chips plain c.args.worker c.args.handle.now c.args.entry.now.1 (entry-first board c.requires.lone plain c.requires.inv c.args.worker c.args.handle.now.bytes c.args.entry.now c.requires.entry)
          events.0 events.1 c.args.request c.args.target c.from-delay.result c.put_request.new.handles (g.W.Wire.accepted c.args.wire.now) (g.W.Wire.faults c.args.wire.now)
          (sym c.uv-before.ensures ∙ c.if-before-target.true)
          (c.from-delay.ensures ∙ c.time.ensures.exact ∙ ap (λ v. time_of rail.limits.times rail.desc.ramp v c.args.target) c.uv-before.ensures)
          c.put_request.ensures);
      tried = tried_still (moves_to first rail (uv rail plain.regs) c.args.target) (g.W.Wire.plan c.args.wire.now)
          (moves_to-there first rail (uv rail plain.regs) c.args.target (sym c.uv-before.ensures ∙ c.if-before-target.true));
      handles = ap length c.put_request.ensures ∙ length-map plain.handles _;
    }

-- the rail's fields lie in the registers, before the moves and after them
placed : (g : given.Over) (c : After-uv-before g) → ArePlaced (length c.args.plain.now.regs) c.args.rail.now.desc
placed g c =
    let same : c.requires.lone.rail ≡ c.args.rail.now = let both : c.requires.lone.rail ∷ [] ≡ c.args.rail.now ∷ [] = sym c.requires.lone.rails ∙ c.requires.rail in cc in
    subst (λ (r : Rail). ArePlaced (length c.args.plain.now.regs) r.desc) same
    (subst (λ (n : ℕ). ArePlaced n c.requires.lone.rail.desc) (sym c.requires.inv.kept.regs) c.requires.lone.sound.desc.placed)

-- the rail is not at its target yet
apart : (g : given.Over) (c : After-settle-settled g) → eqb (uv c.args.rail.now c.args.plain.now.regs) c.args.target ≡ false
apart g c = let other = c.if-before-target.false in let is = c.uv-before.ensures in grind (arith, nat_tests)

-- the listeners of the rail are told of the change
tells : (g : given.Over) (c : In_ok-tell_end g) → c.tell_end.new.events ≡ told_of (uv c.args.rail.now c.args.plain.now.regs) c.args.target c.uv-uv.result c.args.plain.now.events
tells g c =
    c.in_ok-tell_end.ensures
    ∙ ap (map (λ told. told ++ (if c.uv-uv.result == c.args.target then VoltageChange c.uv-uv.result else AbortVoltageChange c.uv-uv.result) ∷ []))
    (c.in_ok-tell.ensures ∙ ap (λ u. map (λ told. told ++ PreVoltageChange u c.args.target ∷ []) c.args.plain.now.events) c.uv-before.ensures)

pub returns-in-Ok : goal.returns-in-Ok
returns-in-Ok g c =
    let rail = c.args.rail.now in
    let board = c.args.board.now in
    let plain = c.args.plain.now in
    let d = (goal.at.returns-in-Ok g c).After-uv-before in
    let events = events-here board c.requires.lone plain c.requires.inv in
    let done = c.in-Ok.ensures in
    record {
      moves = subst (λ b. Moves b plain (record plain { regs = c.settle-settled.new.regs; handles = c.put_request-in-Ok.new.handles; events = c.tell_end.new.events }) c.args.worker c.args.handle.now c.args.request rail c.args.target (OkSet c.uv-uv.result c.from-delay.result) (g.W.Wire.accepted c.args.wire.now) (g.W.Wire.accepted c.settle-settled.new.wire) (g.W.Wire.faults c.args.wire.now) (g.W.Wire.faults c.settle-settled.new.wire)) (sym (board_of g d))
          (moves-arrived rail board.chips plain c.args.worker c.args.handle.now c.args.entry.now.1 (entry-first board c.requires.lone plain c.requires.inv c.args.worker c.args.handle.now.bytes c.args.entry.now c.requires.entry)
          events.0 events.1 c.args.request c.args.target c.settle-settled.new.regs c.tell_end.new.events c.put_request-in-Ok.new.handles c.uv-uv.result c.from-delay.result (g.W.Wire.accepted c.args.wire.now) (g.W.Wire.accepted c.settle-settled.new.wire) (g.W.Wire.faults c.args.wire.now) (g.W.Wire.faults c.settle-settled.new.wire)
          (subst (λ b. Makes b (moves_to first rail (uv rail plain.regs) c.args.target) plain.regs c.settle-settled.new.regs (g.W.Wire.accepted c.args.wire.now) (g.W.Wire.accepted c.settle-settled.new.wire)) (board_of g d) done.there) (arrives g d)
          (apart g (goal.at.returns-in-Ok g c).After-settle-settled) c.uv-uv.ensures
          (c.from-delay.ensures ∙ c.time.ensures.exact ∙ ap (λ v. time_of rail.limits.times rail.desc.ramp v c.args.target) c.uv-before.ensures)
          (tells g (goal.at.returns-in-Ok g c).In_ok-tell_end) c.put_request-in-Ok.ensures done.counted);
      tried = done.tried;
      handles = ap length c.put_request-in-Ok.ensures ∙ length-map plain.handles _;
    }

pub returns-in_ok-changed-in-Err : goal.returns-in_ok-changed-in-Err
returns-in_ok-changed-in-Err g c =
    let rail = c.args.rail.now in
    let board = c.args.board.now in
    let plain = c.args.plain.now in
    let at = goal.at.returns-in_ok-changed-in-Err g c in
    let d = at.After-uv-before in
    let events = events-here board c.requires.lone plain c.requires.inv in
    let stop = c.in-Err.ensures in
    let uv_is = c.uv-uv.ensures in
    record {
      moves = subst (λ b. Moves b plain (record plain { regs = c.settle-settled.new.regs; handles = c.put_request-in-Err.new.handles; events = c.tell_end.new.events }) c.args.worker c.args.handle.now c.args.request rail c.args.target (Fault c.in-Err.field.chip c.in-Err.field.reg c.in-Err.made c.in_ok-changed-in-Err.field-0) (g.W.Wire.accepted c.args.wire.now) (g.W.Wire.accepted c.settle-settled.new.wire) (g.W.Wire.faults c.args.wire.now) (g.W.Wire.faults c.settle-settled.new.wire)) (sym (board_of g d))
          (moves-stopped rail board.chips plain c.args.worker c.args.handle.now c.args.entry.now.1 (entry-first board c.requires.lone plain c.requires.inv c.args.worker c.args.handle.now.bytes c.args.entry.now c.requires.entry)
          events.0 events.1 c.args.request c.args.target c.settle-settled.new.regs c.tell_end.new.events c.put_request-in-Err.new.handles c.uv-uv.result c.in-Err.made c.in-Err.field c.in_ok-changed-in-Err.field-0 (g.W.Wire.accepted c.args.wire.now) (g.W.Wire.accepted c.settle-settled.new.wire) (g.W.Wire.faults c.args.wire.now) (g.W.Wire.faults c.settle-settled.new.wire)
          stop.before_the_end
          (subst (λ b. Makes b (take c.in-Err.made (moves_to first rail (uv rail plain.regs) c.args.target)) plain.regs c.settle-settled.new.regs (g.W.Wire.accepted c.args.wire.now) (g.W.Wire.accepted c.settle-settled.new.wire)) (board_of g d) stop.stopped) (arrives g d)
          stop.selector (apart g at.After-settle-settled) uv_is
          (c.in_ok-changed-in-Err.ensures ∙ ap (λ v. changed v c.uv-uv.result) c.uv-before.ensures)
          (tells g at.In_ok-tell_end) (c.put_request-in-Err.ensures ∙ ap (λ r. with_row plain.handles c.args.worker c.args.handle.now.bytes (with_request r)) c.kept_request-kept.ensures) stop.fault);
      tried = tried_first c.in-Err.made (moves_to first rail (uv rail plain.regs) c.args.target) (g.W.Wire.plan c.args.wire.now) (g.W.Wire.plan c.settle-settled.new.wire) stop.before_the_end stop.tried_in_vain;
      handles = ap length c.put_request-in-Err.ensures ∙ length-map plain.handles _;
    }

pub uv-uv-requires : goal.uv-uv-requires
uv-uv-requires g c =
    subst (λ (n : ℕ). ArePlaced n c.args.rail.now.desc) (sym c.settle-settled.ensures.chips) (placed g (goal.at.uv-uv-requires g c).After-uv-before)
