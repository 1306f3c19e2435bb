use Rattle.chip_regs.proofs.Fields.{bits-with_field}
use Rattle.chip_regs.proofs.laws.put_keeps_bits.Goals as goal

pub returns : goal.returns
returns c = bits-with_field
