use Rattle.std.proofs.Common.{◌≡◌, ◌*◌, ◌≤◌, length, take}
use Rattle.std.specs.Prelude.{All}
use Rattle.rows.specs.Row.{NamesRail, HasRails}
use Rattle.plain_board.specs.History.{replay}
use Rattle.plain_board.specs.Inv.{Inv}
use Rattle.regulator_main.specs.Playing.{PlaysAll}
use Rattle.regulator_main.specs.Wires.{wires_of}
use Rattle.regulator_main.proofs.play.play_scripts.Given as goal

-- the scripts so far were played, and left this plain board
abbrev pub invariant-loop-script : goal.invariant-loop-script
invariant-loop-script g l =
    let counts = g.L.Lab.faults in
    let lists = g.L.Lab.list in
    record {
      plays : PlaysAll l.board l.fn.plain l.refusals (take l.script-index l.scripts) l.rows.items (wires_of (counts l.fn.lab) (lists l.fn.lab)) (wires_of (counts l.lab) (lists l.lab));
      calls : All (λ row. NamesRail l.board row.call) l.rows.items;
      answers : All (λ row. HasRails l.board row.answer) l.rows.items;
      few : length l.rows.items ≤ 4096 * l.script-index;
      replayed : l.plain ≡ replay l.board l.fn.plain l.rows.items;
      inv : Inv l.board l.plain;
      handles : length l.plain.handles ≤ 4096 * l.script-index;
      worker : l.worker ≡ l.script-index;
    }
