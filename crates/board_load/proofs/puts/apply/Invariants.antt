use Rattle.std.proofs.Common.{◌≡◌, length, take}
use Rattle.board_load.specs.Inside.Puts.{after_puts}
use Rattle.board_load.proofs.puts.apply.Given as goal

abbrev pub invariant-loop-put : goal.invariant-loop-put
invariant-loop-put l = record {
  chips : length l.regs ≡ length l.initial.regs;
  regs : l.regs ≡ after_puts l.initial.regs (take l.put-index l.puts);
}
