use Rattle.std.proofs.Common.{◌<◌, take, All}
use Rattle.std.specs.Prelude.{IfSome}
use Rattle.chip_regs.specs.Width.{chip_registers}
use Rattle.board.specs.declared.part.Part.{Part}
use Rattle.board.specs.Rail.{part_field}
use Rattle.plain_board.proofs.fields.hold_fields.Given as goal

abbrev pub invariant-loop-rail : goal.invariant-loop-rail
invariant-loop-rail l = All (λ rail. (part : Part) → IfSome (part_field part rail) (λ field. field.reg < chip_registers)) (take l.rail-index l.rail-items)
