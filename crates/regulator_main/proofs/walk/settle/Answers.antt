use Rattle.std.proofs.Common.{refl, sym, ◌∙◌}
use Rattle.board.specs.Rail.{uv}
use Rattle.regulator_main.specs.Inside.Way.{moves_to}
use Rattle.regulator_main.proofs.Tries.{tried_still}
use Rattle.regulator_main.proofs.Walked.{makes_none, moves_to-there}
use Rattle.regulator_main.proofs.walk.settle.Goals as goal

pub returns-then-uv-target : goal.returns-then-uv-target
returns-then-uv-target g c = record {
  there = makes_none c.args.board.now c.args.id c.args.rail.now (uv c.args.rail.now c.args.regs.now) c.args.target c.args.regs.now (g.W.Wire.accepted c.args.wire.now)
      (sym c.uv.ensures ∙ c.if-uv-target.true);
  counted = refl;
  selector = tt;
  before_the_end = tt;
  stopped = tt;
  fault = tt;
  tried = tried_still (moves_to c.args.id c.args.rail.now (uv c.args.rail.now c.args.regs.now) c.args.target) (g.W.Wire.plan c.args.wire.now)
      (moves_to-there c.args.id c.args.rail.now (uv c.args.rail.now c.args.regs.now) c.args.target (sym c.uv.ensures ∙ c.if-uv-target.true));
  tried_in_vain = tt;
  chips = refl;
}

pub returns-in-Ok : goal.returns-in-Ok
returns-in-Ok g c =
    let done = c.in-Ok.ensures in
    record {
      there = done.there;
      counted = done.counted;
      selector = tt;
      before_the_end = tt;
      stopped = tt;
      fault = tt;
      tried = done.tried;
      tried_in_vain = tt;
      chips = done.chips;
    }

pub returns-in-Err : goal.returns-in-Err
returns-in-Err g c =
    let done = c.in-Err.ensures in
    record {
      there = tt;
      counted = tt;
      selector = c.in-Some.is;
      before_the_end = done.before_the_end;
      stopped = done.stopped;
      fault = done.fault;
      tried = tt;
      tried_in_vain = done.tried_in_vain;
      chips = done.chips;
    }
