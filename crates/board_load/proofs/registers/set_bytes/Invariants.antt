use Rattle.std.proofs.Common.{◌≡◌, length, take}
use Rattle.board_load.specs.Registers.{with_bytes}
use Rattle.board_load.proofs.registers.set_bytes.Given as goal

-- so many of them were written
abbrev pub invariant-loop-chip : goal.invariant-loop-chip
invariant-loop-chip l = record {
  registers : l.regs ≡ with_bytes l.fn.regs (take l.chip-index l.news);
  chips : length l.regs ≡ length l.fn.regs;
}
