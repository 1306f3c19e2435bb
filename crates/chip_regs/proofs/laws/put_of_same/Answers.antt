use Rattle.chip_regs.proofs.Fields.{with_field-field_of}
use Rattle.chip_regs.proofs.laws.put_of_same.Goals as goal

pub returns : goal.returns
returns c = with_field-field_of
