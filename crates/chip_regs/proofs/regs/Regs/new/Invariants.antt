use Rattle.std.proofs.Common.{◌≡◌, replicate}
use Rattle.chip_regs.specs.Width.{chip_registers}
use Rattle.chip_regs.proofs.regs.Regs.new.Given as goal

abbrev pub invariant-loop-chip : goal.invariant-loop-chip
invariant-loop-chip l = l.blank.items ≡ replicate l._chip (replicate chip_registers 0)
