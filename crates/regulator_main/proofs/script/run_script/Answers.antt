use Rattle.std.proofs.Common.{◌≡◌, ◌+◌, ◌∷◌, [], ◌++◌, ◌∙◌, List, refl, sym, subst, ap, arith, length, take}
use Rattle.std.proofs.lemmas.List.{take_all}
use Rattle.board.specs.declared.write.Write.{Write}
use Rattle.rows.specs.declared.row.Row.{Row}
use Rattle.rows.specs.Row.{NamesRail}
use Rattle.plain_board.specs.History.{replay, rows_of}
use Rattle.plain_board.specs.Untied.{IsBuiltCall}
use Rattle.plain_board.specs.Stops.{tries_of}
use Rattle.regulator_main.specs.Inside.Script.{PlaysScript, StaysInStep}
use Rattle.regulator_main.proofs.Scripts.{row_of, plays_none, plays_more, replay_more, one_row_more, stays_by_call}
use Rattle.regulator_main.proofs.Texts.{each_read}
use Rattle.regulator_main.proofs.Tries.{stays_none}
use Rattle.regulator_main.proofs.script.run_script.Given as given
use Rattle.regulator_main.proofs.script.run_script.Goals as goal
use Rattle.regulator_main.proofs.script.run_script.Goals.{In_ok-push}

-- the row that is put last
pushed : (g : given.Over) (c : In_ok-push g) → c.push.new.self.items ≡ c.loop-call.rows.items ++ row_of c.args.worker (c.loop-call.line + 1) c.call-item.result c.in_ok-answer.answer ∷ []
pushed g c =
    c.in_ok-push.ensures.items
    ∙ ap (λ (ws : List Write). c.loop-call.rows.items ++ (record { worker = c.args.worker; line = c.loop-call.line + 1; call = c.call-item.result; answer = c.in_ok-answer.answer; writes = ws }) ∷ []) c.new.ensures

pub loop-call-preserved : goal.loop-call-preserved
loop-call-preserved g c =
    let told = g.W.Wire.accepted in
    let count = g.W.Wire.faults in
    let board = c.args.board.now in
    let rows = c.loop-call.rows.items in
    let i = c.loop-call.call-index in
    let line = c.loop-call.line + 1 in
    let said = c.in_ok-answer.answer in
    let before = c.loop-call.invariant in
    let performs = c.in_ok-answer.ensures.performs in
    let d = (goal.at.loop-call-preserved g c).In_ok-push in
    record {
      plays = subst (λ (rs : List Row). PlaysScript board c.args.plain.now c.args.worker (take (i + 1) c.args.script.now) rs (told c.args.wire.now) (told c.perform.new.wire) (count c.args.wire.now) (count c.perform.new.wire)) (sym (pushed g d))
          (plays_more board c.args.plain.now c.loop-call.plain c.perform.new.plain c.args.worker line c.call-item.result said rows
          (told c.args.wire.now) (told c.loop-call.wire) (told c.perform.new.wire) (count c.args.wire.now) (count c.loop-call.wire) (count c.perform.new.wire) before.replayed performs
          c.args.script.now i c.in_ok-answer.ensures.lawful c.in_ok-answer.ensures.inv.law before.plays (ap (λ n. n + 1) before.line) before.lines (each_read (NamesRail board) c.args.script.now i c.call-item.result c.requires.rails c.loop-call-test.true c.call-item.is) c.loop-call-test.true c.call-item.is);
      in_step = subst (λ (rs : List Row). StaysInStep (tries_of board c.args.plain.now c.args.worker rs) (g.W.Wire.plan c.args.wire.now) (g.W.Wire.plan c.perform.new.wire)) (sym (pushed g d))
          (stays_by_call board c.args.plain.now c.loop-call.plain c.args.worker line c.call-item.result said rows (g.W.Wire.plan c.args.wire.now) (g.W.Wire.plan c.loop-call.wire) (g.W.Wire.plan c.perform.new.wire)
          before.replayed before.in_step c.in_ok-answer.ensures.tried);
      replayed = replay_more board c.args.plain.now c.loop-call.plain c.perform.new.plain c.args.worker line c.call-item.result said rows
          (told c.args.wire.now) (told c.loop-call.wire) (told c.perform.new.wire) (count c.args.wire.now) (count c.loop-call.wire) (count c.perform.new.wire) before.replayed performs
          ∙ ap (replay board c.args.plain.now) (sym (pushed g d));
      inv = c.in_ok-answer.ensures.inv;
      handles = omega (arith, before.handles, c.in_ok-answer.ensures.handles);
      line = ap (λ n. n + 1) before.line;
      lines = one_row_more c.args.worker line c.call-item.result said rows c.push.new.self.items i (pushed g d) before.lines;
    }

pub loop-call-init : goal.loop-call-init
loop-call-init g c =
    let none = c.in_ok-rows.ensures.items in
    record {
      plays = rw none (plays_none c.args.board.now c.args.plain.now c.args.worker (g.W.Wire.accepted c.args.wire.now) (g.W.Wire.faults c.args.wire.now) c.requires.inv.law);
      in_step = subst (λ (rs : List Row). StaysInStep (tries_of c.args.board.now c.args.plain.now c.args.worker rs) (g.W.Wire.plan c.args.wire.now) (g.W.Wire.plan c.args.wire.now)) (sym none) (stays_none (g.W.Wire.plan c.args.wire.now));
      replayed = ap (replay c.args.board.now c.args.plain.now) (sym none);
      inv = c.requires.inv;
      handles = omega arith;
      line = refl;
      lines = ap (λ rows. length (rows_of c.args.worker rows)) none;
    }

pub perform-requires : goal.perform-requires
perform-requires g c = record {
  valid = c.requires.valid;
  lone = c.requires.lone (λ none. absurd (omega (arith, ap length none, c.loop-call-test.true)));
  inv = c.loop-call.invariant.inv;
  built = each_read IsBuiltCall _ _ _ c.requires.built c.loop-call-test.true c.call-item.is;
  few = omega (arith, c.loop-call.invariant.handles, c.requires.short, c.loop-call-test.true);
  rail = each_read (NamesRail c.args.board.now) _ _ _ c.requires.rails c.loop-call-test.true c.call-item.is;
}

pub returns : goal.returns
returns g c =
    let all = take_all c.loop-call.call-index c.args.script.now c.loop-call-test.false in
    record {
      plays = rw (← all) c.loop-call.invariant.plays;
      in_step = c.loop-call.invariant.in_step;
      replayed = c.loop-call.invariant.replayed;
      inv = c.loop-call.invariant.inv;
      handles = omega (arith, c.loop-call.invariant.handles);
    }
