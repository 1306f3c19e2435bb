use Rattle.std.proofs.Common.{arith}
use Rattle.std.proofs.lemmas.Bool.Decides.{nat_tests}
use Rattle.chip_regs.proofs.Clashes.{tested}
use Rattle.chip_regs.proofs.field.Field.shares_bit.Goals as goal
use Rattle.chip_regs.proofs.field.Field.shares_bit.Goals.{then-self-other, else-self-other}

pub returns-then-self-other-2 : goal.returns-then-self-other-2
returns-then-self-other-2 c =
    elim c.if-self-other.branch [
      | then-self-other w ↦ tested c.args.self.now c.args.other.now (omega arith) w.if-self-other.true (grind (arith, nat_tests))
      | else-self-other w ↦ absurd (w.if-self-other.false (grind (arith, nat_tests)))
    ]
