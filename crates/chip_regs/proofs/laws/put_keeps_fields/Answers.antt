use Rattle.chip_regs.proofs.Fields.{field_of-with_field_apart}
use Rattle.chip_regs.proofs.laws.put_keeps_fields.Goals as goal

pub returns : goal.returns
returns c = field_of-with_field_apart
