use Rattle.std.proofs.Common.{refl, subst}
use Rattle.std.specs.Prelude.{Option, IfSome, length}
use Rattle.chip_regs.specs.declared.field.Field.{Field}
use Rattle.board.specs.declared.part.Part.TheVariants.{Selector}
use Rattle.board.specs.Desc.{IsPlaced}
use Rattle.board.proofs.rail.Rail.uv.Goals as goal

pub get-requires : goal.get-requires
get-requires c =
    let placed = subst (λ (o : Option Field). IfSome o (IsPlaced (length c.args.regs.now))) c.in-Some.is (c.requires Selector) in
    record { fits = placed.shape; chip = placed.chip }

pub returns-in-Some : goal.returns-in-Some
returns-in-Some c = rw (c.in-Some.is, c.unwrap_or.ensures, c.value.ensures, c.from-selector.ensures, c.get.ensures.number) refl
