use Rattle.std.proofs.Common.{Some, sym, ap, subst, ◌∙◌}
use Rattle.std.specs.Prelude.{option_and_then}
use Rattle.reg_outside.specs.Count.{raised}
use Rattle.reg_outside.specs.Planned.{PlannedState, count_of}
use Rattle.reg_outside.specs.Told.{StartsEmpty}
use Rattle.plain_board.specs.Stops.{tries_of}
use Rattle.regulator_main.specs.Inside.Script.{PlaysScript, StaysInStep}
use Rattle.regulator_main.specs.Playing.{PlaysWorker}
use Rattle.regulator_main.specs.Wires.{Wires}
use Rattle.regulator_main.proofs.Options.{both_ok}
use Rattle.regulator_main.proofs.Workers.{plays_worker}
use Rattle.regulator_main.proofs.worker.play_worker.Goals as goal

pub returns-clause-plays : goal.returns-clause-plays
returns-clause-plays g c =
    let faults = g.L.W.Wire.faults in
    let accepted = g.L.W.Wire.accepted in
    let counts = g.L.Lab.faults in
    let lists = g.L.Lab.list in
    let board = c.args.board.now in
    let plain = c.args.plain.now in
    let worker = c.args.worker in
    let start = c.new-wire.result in
    let end = c.run_script-rows.new.wire in
    let before : Wires = record { counts = counts c.args.lab.now; lists = lists c.args.lab.now } in
    let after : Wires = record { counts = counts c.back.new.self; lists = lists c.back.new.self } in
    let inner = ap (λ (planned : PlannedState g.row.L-W.Denot). planned.inner) c.new-wire.ensures.made in
    let plan = ap (λ (planned : PlannedState g.row.L-W.Denot). planned.plan) c.new-wire.ensures.made in
    both_ok c.run_script-rows.result
    (λ rows. PlaysScript board plain worker c.args.script.now rows.items (accepted start.inner) (accepted end.inner) (count_of faults start) (count_of faults end))
    (λ rows. StaysInStep (tries_of board plain worker rows.items) (Some start.plan) (Some end.plan))
    (λ rows. PlaysWorker board plain c.args.refusals.now worker c.args.script.now rows.items before after)
    (λ rows plays stays. plays_worker board plain c.args.refusals.now worker c.args.script.now rows.items c.in_ok-numbers.numbers.items start.plan end.plan (accepted start.inner) (accepted end.inner) (faults start.inner) (faults end.inner) before after
    c.in_ok-numbers.ensures plan c.new-wire.ensures.small c.requires.numbered
    (ap faults inner ∙ c.wire.ensures.no_fault)
    (subst (λ wire. StartsEmpty (lists c.args.lab.now worker) (accepted wire)) (sym inner) c.wire.ensures.empty)
    plays stays
    (c.back.ensures.counted ∙ ap (λ n. raised n (faults c.into_inner.result)) (c.wire.ensures.counts_stay worker) ∙ ap (λ wire. raised (counts c.args.lab.now worker) (faults wire)) c.into_inner.ensures)
    (c.back.ensures.kept ∙ ap (option_and_then (λ _. accepted c.into_inner.result)) (c.wire.ensures.lists_stay worker) ∙ ap (λ wire. option_and_then (λ _. accepted wire) (lists c.args.lab.now worker)) c.into_inner.ensures)
    (record {
      counts = λ n other. c.back.ensures.other_counts_stay n other ∙ c.wire.ensures.counts_stay n;
      lists = λ n other. c.back.ensures.other_lists_stay n other ∙ c.wire.ensures.lists_stay n;
    }))
    c.run_script-rows.ensures.plays c.run_script-rows.ensures.in_step
