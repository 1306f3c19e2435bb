use Rattle.std.proofs.Common.{refl, subst}
use Rattle.std.specs.Prelude.{Option, IfSome, length}
use Rattle.chip_regs.specs.declared.field.Field.{Field}
use Rattle.board.specs.declared.part.Part.TheVariants.{Selector}
use Rattle.board.specs.Desc.{IsPlaced}
use Rattle.rail_law.proofs.shown.uv_shown.Goals.{In-Some}
use Rattle.rail_law.proofs.shown.uv_shown.Goals as goal

placed : (c : In-Some) → IsPlaced (length c.args.regs.now) c.in-Some.field
placed c = subst (λ (o : Option Field). IfSome o (IsPlaced (length c.args.regs.now))) c.in-Some.is (c.requires.placed Selector)

pub field_shown-requires-clause-fits : goal.field_shown-requires-clause-fits
field_shown-requires-clause-fits c = (placed c).shape

pub field_shown-requires-clause-chip : goal.field_shown-requires-clause-chip
field_shown-requires-clause-chip c = (placed c).chip

pub returns-in-Some : goal.returns-in-Some
returns-in-Some c = rw (c.in-Some.is, c.unwrap_or.ensures, c.value.ensures, c.from-selector.ensures, c.field_shown.ensures) refl
