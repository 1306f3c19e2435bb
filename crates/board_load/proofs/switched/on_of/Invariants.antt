use Rattle.std.proofs.Common.{◌≡◌, length}
use Rattle.board_load.proofs.MarkLemmas.{IsOnBy}
use Rattle.board_load.proofs.switched.on_of.Given as goal

abbrev pub invariant-loop-r : goal.invariant-loop-r
invariant-loop-r l = record {
  size : length l.on ≡ length l.board.rails;
  on : IsOnBy l.board l.regs l.r l.on;
}
