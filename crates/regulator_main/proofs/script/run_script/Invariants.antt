use Rattle.std.proofs.Common.{◌≡◌, ◌+◌, ◌≤◌, length, take}
use Rattle.plain_board.specs.History.{replay, rows_of}
use Rattle.plain_board.specs.Inv.{Inv}
use Rattle.plain_board.specs.Stops.{tries_of}
use Rattle.regulator_main.specs.Inside.Script.{PlaysScript, StaysInStep}
use Rattle.regulator_main.proofs.script.run_script.Given as goal

-- the lines so far were played, and left this plain board
abbrev pub invariant-loop-call : goal.invariant-loop-call
invariant-loop-call g l =
    let told = g.W.Wire.accepted in
    let count = g.W.Wire.faults in
    record {
      plays : PlaysScript l.board l.fn.plain l.worker (take l.call-index l.script) l.rows.items (told l.fn.wire) (told l.wire) (count l.fn.wire) (count l.wire);
      in_step : StaysInStep (tries_of l.board l.fn.plain l.worker l.rows.items) (g.W.Wire.plan l.fn.wire) (g.W.Wire.plan l.wire);
      replayed : l.plain ≡ replay l.board l.fn.plain l.rows.items;
      inv : Inv l.board l.plain;
      handles : length l.plain.handles ≤ length l.fn.plain.handles + l.call-index;
      line : l.line ≡ l.call-index;
      lines : length (rows_of l.worker l.rows.items) ≡ l.call-index;
    }
