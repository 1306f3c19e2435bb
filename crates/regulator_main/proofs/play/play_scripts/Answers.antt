use Rattle.std.proofs.Common.{◌≡◌, ◌++◌, ◌+◌, ℕ, ◌≤◌, ◌∙◌, List, sym, subst, ap, arith, get_or, length, length-append, take}
use Rattle.std.proofs.lemmas.List.{take_all}
use Rattle.std.proofs.lemmas.List.Elements.{All-append}
use Rattle.std.specs.Prelude.{All}
use Rattle.rows.specs.declared.call.Call.{Call}
use Rattle.rows.specs.declared.row.Row.{Row}
use Rattle.rows.specs.Row.{NamesRail, HasRails}
use Rattle.plain_board.specs.declared.plain.Plain.{Plain}
use Rattle.plain_board.specs.History.{replay}
use Rattle.regulator_main.specs.Playing.{PlaysAll, PlaysWorker}
use Rattle.regulator_main.specs.Wires.{wires_of}
use Rattle.regulator_main.proofs.Histories.{replay-append}
use Rattle.regulator_main.proofs.Texts.{each_read}
use Rattle.regulator_main.proofs.AllWorkers.{plays_more, one_script_more, next_number, length-rows}
use Rattle.regulator_main.proofs.play.play_scripts.Given as given
use Rattle.regulator_main.proofs.play.play_scripts.Goals as goal
use Rattle.regulator_main.proofs.play.play_scripts.Goals.{In_ok-more}

-- the script of this turn
here : (g : given.Over) (c : In_ok-more g) → c.as_slice-calls.result.now ≡ get_or c.args.scripts.now c.loop-script.script-index c.as_slice-calls.result.now
here g c = subst (λ s. s ≡ get_or c.args.scripts.now c.loop-script.script-index s) (sym c.as_slice-calls.ensures) c.script-item.is

-- it ran from the plain board that the rows before it left
played : (g : given.Over) (c : In_ok-more g) → PlaysWorker c.args.board.now (replay c.args.board.now c.args.plain.now c.loop-script.rows.items) c.args.refusals.now (1 + length (take c.loop-script.script-index c.args.scripts.now))
    c.as_slice-calls.result.now c.in_ok-more.more.items (wires_of (g.L.Lab.faults c.loop-script.lab) (g.L.Lab.list c.loop-script.lab)) (wires_of (g.L.Lab.faults c.play_worker.new.lab) (g.L.Lab.list c.play_worker.new.lab))
played g c =
    let mid = wires_of (g.L.Lab.faults c.loop-script.lab) (g.L.Lab.list c.loop-script.lab) in
    let after = wires_of (g.L.Lab.faults c.play_worker.new.lab) (g.L.Lab.list c.play_worker.new.lab) in
    let number = next_number c.args.scripts.now c.loop-script.script-index c.loop-script.worker c.loop-script-test.true c.loop-script.invariant.worker in
    subst (λ (p : Plain). PlaysWorker c.args.board.now p c.args.refusals.now (1 + length (take c.loop-script.script-index c.args.scripts.now)) c.as_slice-calls.result.now c.in_ok-more.more.items mid after) c.loop-script.invariant.replayed
    (subst (λ (n : ℕ). PlaysWorker c.args.board.now c.loop-script.plain c.args.refusals.now n c.as_slice-calls.result.now c.in_ok-more.more.items mid after) number c.in_ok-more.ensures.plays)

pub loop-script-preserved : goal.loop-script-preserved
loop-script-preserved g c =
    let d = (goal.at.loop-script-preserved g c).In_ok-more in
    let board = c.args.board.now in
    let plain = c.args.plain.now in
    let refusals = c.args.refusals.now in
    let scripts = c.args.scripts.now in
    let rows = c.loop-script.rows.items in
    let more = c.in_ok-more.more.items in
    let i = c.loop-script.script-index in
    let script = c.as_slice-calls.result.now in
    let before = wires_of (g.L.Lab.faults c.args.lab.now) (g.L.Lab.list c.args.lab.now) in
    let mid = wires_of (g.L.Lab.faults c.loop-script.lab) (g.L.Lab.list c.loop-script.lab) in
    let after = wires_of (g.L.Lab.faults c.play_worker.new.lab) (g.L.Lab.list c.play_worker.new.lab) in
    let so_far = c.loop-script.invariant in
    let one = c.in_ok-more.ensures in
    let grown : c.append.new.self.items ≡ rows ++ more = c.in_ok-append.ensures.items in
    let short : length script ≤ 4096 = each_read (λ (s : List Call). length s ≤ 4096) scripts i script c.requires.playable.short c.loop-script-test.true (here g d) in
    let plays = plays_more board plain refusals (take i scripts) script rows more before mid after so_far.plays (played g d) in
    let count : length more ≡ length script = length-rows board c.loop-script.plain (c.loop-script.worker + 1) script more one.plays.history in
    record {
      plays = subst (λ (rs : List Row). PlaysAll board plain refusals (take (i + 1) scripts) rs before after) (sym grown)
          (subst (λ (ss : List (List Call)). PlaysAll board plain refusals ss (rows ++ more) before after) (one_script_more scripts i script c.loop-script-test.true (here g d)) plays);
      calls = subst (λ (rs : List Row). All (λ row. NamesRail board row.call) rs) (sym grown) (All-append (λ row. NamesRail board row.call) rows more so_far.calls one.names);
      answers = subst (λ (rs : List Row). All (λ row. HasRails board row.answer) rs) (sym grown) (All-append (λ row. HasRails board row.answer) rows more so_far.answers one.rails);
      few = omega (arith, ap length grown, length-append rows more, count, short, so_far.few);
      replayed = one.replayed ∙ ap (λ (p : Plain). replay board p more) so_far.replayed ∙ sym (replay-append board plain rows more) ∙ ap (replay board plain) (sym grown);
      inv = one.inv;
      handles = omega (arith, one.handles, so_far.handles, short);
      worker = ap (λ n. n + 1) so_far.worker;
    }

pub returns : goal.returns
returns g c =
    let all = take_all c.loop-script.script-index c.args.scripts.now c.loop-script-test.false in
    let before = c.loop-script.invariant in
    record {
      plays = subst (λ (scripts : List (List Call)). PlaysAll c.args.board.now c.args.plain.now c.args.refusals.now scripts c.loop-script.rows.items
          (wires_of (g.L.Lab.faults c.args.lab.now) (g.L.Lab.list c.args.lab.now)) (wires_of (g.L.Lab.faults c.loop-script.lab) (g.L.Lab.list c.loop-script.lab))) all before.plays;
      calls = before.calls;
      answers = before.answers;
      few = omega (arith, before.few, c.requires.playable.few, c.loop-script.auto.script-index-end);
      replayed = before.replayed;
      inv = before.inv;
      handles = omega (arith, before.handles, c.requires.playable.few, c.loop-script.auto.script-index-end);
    }
