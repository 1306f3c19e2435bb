use Rattle.std.proofs.Common.{subst}
use Rattle.std.specs.Prelude.{Option, IfSome, length}
use Rattle.chip_regs.specs.declared.field.Field.{Field}
use Rattle.board.specs.declared.part.Part.TheVariants.{ModePart}
use Rattle.board.specs.Desc.{IsPlaced}
use Rattle.board_load.proofs.puts.mode_put.Goals as goal

pub changed_put-requires : goal.changed_put-requires
changed_put-requires c = subst (λ (o : Option Field). IfSome o (IsPlaced (length c.args.regs.now))) c.in_ok-field.was (c.requires.placed ModePart)
