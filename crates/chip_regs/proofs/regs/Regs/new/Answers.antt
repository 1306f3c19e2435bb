use Rattle.std.proofs.Common.{sym, subst}
use Rattle.chip_regs.specs.Registers.{IsImage}
use Rattle.chip_regs.proofs.Image.{IsImage-replicate}
use Rattle.chip_regs.proofs.regs.Regs.new.Goals as goal

pub invariant_of-result : goal.invariant_of-result
invariant_of-result c = subst IsImage (sym c.loop-chip.invariant) (IsImage-replicate c.loop-chip._chip)
