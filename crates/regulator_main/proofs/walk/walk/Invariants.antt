use Rattle.std.proofs.Common.{◌≡◌, ◌+◌, ◌≤◌, drop, length}
use Rattle.std.specs.Int.{abs_diff}
use Rattle.board.specs.Rail.{uv}
use Rattle.regulator_main.specs.Inside.Way.{moves_to}
use Rattle.regulator_main.specs.Walk.{Tried, all_made}
use Rattle.regulator_main.proofs.Walked.{Walked}
use Rattle.regulator_main.proofs.walk.walk.Given as goal

abbrev pub invariant-loop-at : goal.invariant-loop-at
invariant-loop-at g l =
    let moves = moves_to l.fn.id l.rail (uv l.rail l.fn.regs) l.target in
    let told = g.W.Wire.accepted in
    record {
      walked : Walked l.board moves l.fn.regs l.regs (told l.fn.wire) (told l.wire) l.made;
      rest : moves_to l.fn.id l.rail l.at l.target ≡ drop l.made moves;
      at : l.at ≡ uv l.rail l.regs;
      counted : g.W.Wire.faults l.wire ≡ g.W.Wire.faults l.fn.wire;
      tried : Tried (all_made l.made) (g.W.Wire.plan l.fn.wire) (g.W.Wire.plan l.wire);
      chips : length l.regs ≡ length l.fn.regs;
      bound : l.made + abs_diff l.at l.target ≤ abs_diff l.initial.at l.target;
    }

abbrev pub decreases-loop-at : goal.decreases-loop-at
decreases-loop-at g l = abs_diff l.at l.target
