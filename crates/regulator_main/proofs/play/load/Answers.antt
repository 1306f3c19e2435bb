use Rattle.std.proofs.Common.{ℕ, ◌≡◌, subst}
use Rattle.regulator_main.specs.Bringing.{StopsLoad}
use Rattle.regulator_main.specs.Wires.{wires_of}
use Rattle.regulator_main.proofs.Bringing.{ComesBack, brings_up, stops_load}
use Rattle.regulator_main.proofs.play.load.Given as given
use Rattle.regulator_main.proofs.play.load.Goals as goal
use Rattle.regulator_main.proofs.play.load.Goals.{After-back}

-- the wire of the load came back
came_back : (g : given.Over) (c : After-back g) → ComesBack g.L.W.Wire.faults g.L.W.Wire.accepted c.args.refusals.now c.in_ok-numbers.numbers.items
    (wires_of (g.L.Lab.faults c.args.lab.now) (g.L.Lab.list c.args.lab.now)) (wires_of (g.L.Lab.faults c.wire.new.self) (g.L.Lab.list c.wire.new.self)) (wires_of (g.L.Lab.faults c.back.new.self) (g.L.Lab.list c.back.new.self))
    c.wire.result c.new-wire.result c.bring_up-made.new.wire c.into_inner.result
came_back g c = record {
  numbers_are = c.in_ok-numbers.ensures;
  no_fault = c.wire.ensures.no_fault;
  empty = c.wire.ensures.empty;
  counts_stay = c.wire.ensures.counts_stay;
  lists_stay = c.wire.ensures.lists_stay;
  made = c.new-wire.ensures.made;
  inside = c.into_inner.ensures;
  counted = c.back.ensures.counted;
  kept = c.back.ensures.kept;
  other_counts = c.back.ensures.other_counts_stay;
  other_lists = c.back.ensures.other_lists_stay;
}

pub returns-in-Ok-clause-loads : goal.returns-in-Ok-clause-loads
returns-in-Ok-clause-loads g c =
    brings_up g.L.W.Wire.faults g.L.W.Wire.accepted c.args.refusals.now c.args.loaded.now.writes c.in_ok-numbers.numbers.items
    (wires_of (g.L.Lab.faults c.args.lab.now) (g.L.Lab.list c.args.lab.now)) (wires_of (g.L.Lab.faults c.wire.new.self) (g.L.Lab.list c.wire.new.self)) (wires_of (g.L.Lab.faults c.back.new.self) (g.L.Lab.list c.back.new.self))
    c.wire.result c.new-wire.result c.bring_up-made.new.wire c.into_inner.result
    (came_back g (goal.at.returns-in-Ok-clause-loads g c).After-back) c.in-Ok.ensures.done

pub returns-in-Err-clause-stopped : goal.returns-in-Err-clause-stopped
returns-in-Err-clause-stopped g c = λ chip reg is.
    let before = wires_of (g.L.Lab.faults c.args.lab.now) (g.L.Lab.list c.args.lab.now) in
    let mid = wires_of (g.L.Lab.faults c.wire.new.self) (g.L.Lab.list c.wire.new.self) in
    let after = wires_of (g.L.Lab.faults c.back.new.self) (g.L.Lab.list c.back.new.self) in
    let stop = stops_load g.L.W.Wire.faults g.L.W.Wire.accepted c.args.refusals.now c.args.loaded.now.writes c.in_ok-numbers.numbers.items before mid after
    c.wire.result c.new-wire.result c.bring_up-made.new.wire c.into_inner.result
    (came_back g (goal.at.returns-in-Err-clause-stopped g c).After-back) c.in-Err.stop.chip c.in-Err.stop.reg c.in-Err.ensures.stopped in
    let same_chip : c.in-Err.stop.chip ≡ chip = cc is in
    let same_reg : c.in-Err.stop.reg ≡ reg = cc is in
    subst (λ (r : ℕ). StopsLoad c.args.loaded.now.writes c.args.refusals.now chip r before after) same_reg
    (subst (λ (k : ℕ). StopsLoad c.args.loaded.now.writes c.args.refusals.now k c.in-Err.stop.reg before after) same_chip stop)
