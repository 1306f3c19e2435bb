use Rattle.std.proofs.Common.{ap}
use Rattle.std.proofs.Math.Nat.{mod-eq_of_lt}
use Rattle.chip_regs.proofs.Fields.{part-lt}
use Rattle.board_load.proofs.puts.write_of.Goals as goal

pub returns : goal.returns
returns c =
    let put = c.args.put.now in
    ap (λ n. record { chip = put.field.chip; reg = put.field.reg; mask = put.field.mask; bits = n }) (mod-eq_of_lt (part-lt put.field put.bits c.requires.shape c.requires.room))
