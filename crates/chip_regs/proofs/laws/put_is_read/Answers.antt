use Rattle.chip_regs.proofs.Fields.{field_of-with_field}
use Rattle.chip_regs.proofs.laws.put_is_read.Goals as goal

pub returns : goal.returns
returns c = field_of-with_field
