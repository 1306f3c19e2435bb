use Rattle.std.proofs.Common.{◌≡◌, ◌∷◌, Some, None, refl, sym, subst, ap, ◌∙◌}
use Rattle.std.specs.Prelude.{filter_map}
use Rattle.std.specs.List.{list_all}
use Rattle.std.proofs.lemmas.Bool.{lt-ltb, le-ltb}
use Rattle.std.proofs.lemmas.List.Elements.{filter_agree}
use Rattle.std.proofs.lemmas.Result.{IfOk-weaker}
use Rattle.board.specs.declared.board.Board.{Board}
use Rattle.board.specs.Rail.{uv, allowed, least, is_within}
use Rattle.rows.specs.declared.answer.Answer.{Answer}
use Rattle.rows.specs.declared.answer.Answer.TheVariants.{Suspended, BadRange, NoValue}
use Rattle.rows.specs.declared.call.Call.TheVariants.{Set}
use Rattle.plain_board.specs.Handles.{open_of}
use Rattle.plain_board.specs.Plan.{moves_of_call}
use Rattle.plain_board.specs.Refusals.{refusal}
use Rattle.plain_board.specs.Answer.{planned}
use Rattle.plain_board.specs.Requests.{meets}
use Rattle.regulator_main.specs.Inside.Asked.{asks}
use Rattle.regulator_main.specs.Inside.Way.{moves_to}
use Rattle.regulator_main.proofs.LoneAnswers.{set-suspended, set-turned, set-none, set-moves, target}
use Rattle.regulator_main.proofs.LoneBoard.{lone_board, first}
use Rattle.regulator_main.proofs.LoneEntry.{board-is, entry-first}
use Rattle.regulator_main.specs.Desk.{tries_for}
use Rattle.regulator_main.specs.Walk.{Tried}
use Rattle.regulator_main.proofs.Performed.{performs-refused, performs-moves, tried-refused}
use Rattle.regulator_main.proofs.Targets.{target_allowed}
use Rattle.regulator_main.proofs.desk.set.Given as given
use Rattle.regulator_main.proofs.desk.set.Goals as goal
use Rattle.regulator_main.proofs.desk.set.Goals.{In-Some, After-least_within}

-- the handle is open, on the board's one rail
held : (g : given.Over) (c : In-Some g) → open_of c.args.plain.now.handles c.args.worker c.args.handle.now.bytes ≡ Some (first, c.in-Some.entry.1)
held g c =
    entry-first c.args.board.now c.requires.lone c.args.plain.now c.requires.inv c.args.worker c.args.handle.now.bytes c.in-Some.entry
    (ap (λ hs. open_of hs c.args.worker c.args.handle.now.bytes) (sym c.as_slice.ensures) ∙ sym c.open_of.ensures ∙ c.in-Some.is)

-- a call that is refused on the board, written out, is refused on the board
refused : (g : given.Over) (c : In-Some g) (said : Answer) → refusal (lone_board c.requires.lone.rail c.args.board.now.chips) c.args.plain.now c.args.worker (Set c.args.handle.now c.args.request.0 c.args.request.1) ≡ Some said
    → refusal c.args.board.now c.args.plain.now c.args.worker (Set c.args.handle.now c.args.request.0 c.args.request.1) ≡ Some said
refused g c said is =
    subst (λ (b : Board). refusal b c.args.plain.now c.args.worker (Set c.args.handle.now c.args.request.0 c.args.request.1) ≡ Some said)
    (sym (board-is c.args.board.now c.requires.lone c.requires.lone.rail c.requires.lone.rails)) is

pub returns-then-plain : goal.returns-then-plain
returns-then-plain g c =
    let d = (goal.at.returns-then-plain g c).In-Some in
    let call = Set c.args.handle.now c.args.request.0 c.args.request.1 in
    let is = refused g d Suspended (set-suspended c.requires.lone.rail c.args.board.now.chips c.args.plain.now c.args.worker c.args.handle.now c.in-Some.entry.1 (held g d) c.args.request.0 c.args.request.1 c.if-plain.true) in
    record {
      performs = performs-refused c.args.board.now c.args.plain.now c.args.plain.now c.args.worker call Suspended (g.W.Wire.accepted c.args.wire.now) (g.W.Wire.accepted c.args.wire.now) (g.W.Wire.faults c.args.wire.now) (g.W.Wire.faults c.args.wire.now) is refl;
      tried = tried-refused c.args.board.now c.args.plain.now c.args.worker call Suspended (g.W.Wire.plan c.args.wire.now) is refl;
      handles = refl;
    }

pub returns-then-request : goal.returns-then-request
returns-then-request g c =
    let d = (goal.at.returns-then-request g c).In-Some in
    let call = Set c.args.handle.now c.args.request.0 c.args.request.1 in
    let is = refused g d (BadRange c.args.request.0 c.args.request.1) (set-turned c.requires.lone.rail c.args.board.now.chips c.args.plain.now c.args.worker c.args.handle.now c.in-Some.entry.1 (held g d) c.args.request.0 c.args.request.1 c.if-plain.false (lt-ltb c.args.request.1 c.args.request.0 c.if-request.true)) in
    record {
      performs = performs-refused c.args.board.now c.args.plain.now c.args.plain.now c.args.worker call (BadRange c.args.request.0 c.args.request.1) (g.W.Wire.accepted c.args.wire.now) (g.W.Wire.accepted c.args.wire.now) (g.W.Wire.faults c.args.wire.now) (g.W.Wire.faults c.args.wire.now) is refl;
      tried = tried-refused c.args.board.now c.args.plain.now c.args.worker call (BadRange c.args.request.0 c.args.request.1) (g.W.Wire.plan c.args.wire.now) is refl;
      handles = refl;
    }

-- the least value that was found is the target on the board of this rail
found : (g : given.Over) (c : After-least_within g) → target c.lone_rail-rail.result.now c.args.board.now.chips c.args.plain.now c.args.worker c.args.handle.now c.args.request ≡ c.least_within.result
found g c =
    ap least (filter_agree (λ v. list_all (meets v) (c.args.request ∷ filter_map (asks c.args.worker c.args.handle.now.bytes 0) c.args.plain.now.handles)) (is_within (Some c.bounds-least.result))
    (λ v. ap (λ hs. list_all (meets v) (c.args.request ∷ filter_map (asks c.args.worker c.args.handle.now.bytes 0) hs)) (sym c.as_slice-handles.ensures) ∙ c.bounds-least.ensures v) (allowed c.lone_rail-rail.result.now))
    ∙ sym c.least_within.ensures

pub returns-in_default-least_within : goal.returns-in_default-least_within
returns-in_default-least_within g c =
    let at = goal.at.returns-in_default-least_within g c in
    let board = c.args.board.now in
    let plain = c.args.plain.now in
    let rail = c.lone_rail-rail.result.now in
    let call = Set c.args.handle.now c.args.request.0 c.args.request.1 in
    let is = subst (λ (b : Board). refusal b plain c.args.worker call ≡ Some NoValue) (sym (board-is board c.requires.lone rail c.lone_rail-rail.ensures))
    (set-none rail board.chips plain c.args.worker c.args.handle.now c.in-Some.entry.1 (held g at.In-Some) c.args.request.0 c.args.request.1 c.if-plain.false (le-ltb c.args.request.1 c.args.request.0 c.if-request.false)
    (found g at.After-least_within ∙ c.in_default-least_within.is)) in
    record {
      performs = performs-refused board plain plain c.args.worker call NoValue (g.W.Wire.accepted c.args.wire.now) (g.W.Wire.accepted c.args.wire.now) (g.W.Wire.faults c.args.wire.now) (g.W.Wire.faults c.args.wire.now) is refl;
      tried = tried-refused board plain c.args.worker call NoValue (g.W.Wire.plan c.args.wire.now) is refl;
      handles = refl;
    }

pub move_to-requires-clause-allowed : goal.move_to-requires-clause-allowed
move_to-requires-clause-allowed g c =
    target_allowed c.lone_rail-rail.result.now c.bounds-least.result c.in-Some-least_within.target (sym c.least_within.ensures ∙ c.in-Some-least_within.is)

pub returns : goal.returns
returns g c =
    let at = goal.at.returns g c in
    let board = c.args.board.now in
    let plain = c.args.plain.now in
    let rail = c.lone_rail-rail.result.now in
    let v = c.in-Some-least_within.target in
    let call = Set c.args.handle.now c.args.request.0 c.args.request.1 in
    let told = g.W.Wire.accepted in
    let count = g.W.Wire.faults in
    let moves = set-moves rail board.chips plain c.args.worker c.args.handle.now c.in-Some.entry.1 (held g at.In-Some) c.args.request.0 c.args.request.1 v c.if-plain.false (le-ltb c.args.request.1 c.args.request.0 c.if-request.false)
    (found g at.After-least_within ∙ c.in-Some-least_within.is)
    (target_allowed rail c.bounds-least.result v (sym c.least_within.ensures ∙ c.in-Some-least_within.is)) in
    let is = sym (board-is board c.requires.lone rail c.lone_rail-rail.ensures) in
    let accepted = subst (λ (b : Board). refusal b plain c.args.worker call ≡ None) is moves.0 in
    let planned_moves = subst (λ (b : Board). moves_of_call b plain c.args.worker call ≡ moves_to first rail (uv rail plain.regs) v) is moves.1 in
    record {
      performs = IfOk-weaker c.move_to.result _ _
          (λ said m. performs-moves board plain c.move_to.new.plain c.args.worker call said (told c.args.wire.now) (told c.move_to.new.wire) (count c.args.wire.now) (count c.move_to.new.wire)
          (moves_to first rail (uv rail plain.regs) v) accepted planned_moves m.answered m.took)
          c.move_to.ensures.moves;
      tried = IfOk-weaker c.move_to.result _ _
          (λ said t. subst (λ ms. Tried (tries_for ms said) (g.W.Wire.plan c.args.wire.now) (g.W.Wire.plan c.move_to.new.wire)) (sym (ap (planned board plain c.args.worker call) accepted ∙ planned_moves)) t)
          c.move_to.ensures.tried;
      handles = c.move_to.ensures.handles;
    }
