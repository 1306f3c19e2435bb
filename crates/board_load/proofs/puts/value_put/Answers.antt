use Rattle.std.proofs.Common.{◌^◌, ap, subst, sym, refl, arith}
use Rattle.std.specs.Prelude.{Option, IfSome, length, is_some}
use Rattle.std.proofs.Math.Nat.{div-le_self}
use Rattle.chip_regs.specs.declared.field.Field.{Field}
use Rattle.chip_regs.specs.Field.{FitsField}
use Rattle.chip_regs.proofs.Fields.{mask-lt}
use Rattle.board.specs.declared.part.Part.TheVariants.{Selector}
use Rattle.board.specs.Desc.{IsPlaced, HoldsSelectors}
use Rattle.board_load.proofs.TableSelectors.{selector_has}
use Rattle.board_load.proofs.puts.value_put.Goals as goal

pub changed_put-requires : goal.changed_put-requires
changed_put-requires c = subst (λ (o : Option Field). IfSome o (IsPlaced (length c.args.regs.now))) c.in_ok-field.was (c.requires.placed Selector)

pub overflow_cast-selector : goal.overflow_cast-selector
overflow_cast-selector c =
    let rail = c.args.rail.now in
    let field = c.in_ok-field.field in
    let sel = c.in_ok-selector.selector in
    let placed = subst (λ (o : Option Field). IfSome o (IsPlaced (length c.args.regs.now))) c.in_ok-field.was (c.requires.placed Selector) in
    let holds : HoldsSelectors rail.desc.table field = subst (λ (o : Option Field). IfSome o (HoldsSelectors rail.desc.table)) c.in_ok-field.was c.requires.selector in
    let has = selector_has rail c.args.target sel (sym (c.in_ok-selector.ensures rail refl)) in
    let fits : FitsField field sel = (holds sel).1 (ap is_some has) in
    let mask = mask-lt field placed.shape in
    let most = div-le_self field.mask (2 ^ field.shift) in
    omega (arith, fits, mask, most)
