use Rattle.chip_regs.proofs.Fields.{IsImage-with_field, length-with_field}
use Rattle.chip_regs.proofs.laws.put_keeps_chips.Goals as goal

pub returns : goal.returns
returns c = (λ R f n can. (IsImage-with_field R f n can, length-with_field R f n))
