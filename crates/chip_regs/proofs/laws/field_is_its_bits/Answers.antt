use Rattle.chip_regs.proofs.Fields.{field_of-bits}
use Rattle.chip_regs.proofs.laws.field_is_its_bits.Goals as goal

pub returns : goal.returns
returns c = field_of-bits
