use Rattle.std.proofs.Common.{◌≡◌, ◌<◌, ◌*◌, ◌%◌, ◌^◌, ◌-◌, [], length, slice_set, slice_index_or, bit_and, bit_or, arith, ◌∙◌, sym, ap, subst}
use Rattle.std.proofs.lemmas.List.{get_or_default}
use Rattle.chip_regs.specs.Width.{register_contents}
use Rattle.chip_regs.specs.Registers.{CanPut, with_field, field_of, chip_of, HasChip, IsImage}
use Rattle.chip_regs.proofs.Fields.{put-registers, field_of-with_field, bits_kept, field_of-with_field_apart, IsImage-with_field}
use Rattle.chip_regs.proofs.regs.Regs.put.Goals as goal

can : (c : goal.After-self-1) → CanPut c.self.inside.chips.items c.args.field.now c.args.bits
can c = record {
  image = c.self.invariant;
  chip = subst (λ R. HasChip R c.args.field.now.chip) (sym c.self.view_is) c.requires.chip;
  reg = omega arith;
  field = c.requires.fits;
  room = c.requires.room;
}

written : (c : goal.After-self-1) →
    slice_set c.self.inside.chips.items c.from.result
    (slice_set c.index_mut.result.now c.from-2.result
    (bit_or (bit_and (slice_index_or c.index_mut.result.now c.from-2.result 0) (register_contents - 1 - c.args.field.now.mask)) (c.args.bits * 2 ^ c.args.field.now.shift % register_contents)))
    ≡ with_field c.self.inside.chips.items c.args.field.now c.args.bits
written c =
    let R = c.self.inside.chips.items in
    let line : c.index_mut.result.now ≡ chip_of R c.args.field.now.chip =
    c.index_mut.ensures.value
    ∙ get_or_default R c.from.result c.index_mut.result.now [] (subst (λ k. k < length R) (sym c.from.ensures) (can c).chip)
    ∙ ap (λ k. slice_index_or R k []) c.from.ensures in
    put-registers R c.args.field.now c.args.bits c.from.result c.from-2.result c.index_mut.result.now (can c) c.from.ensures c.from-2.ensures line

pub returns-clause-registers : goal.returns-clause-registers
returns-clause-registers c = written c ∙ ap (λ R. with_field R c.args.field.now c.args.bits) c.self.view_is

pub returns-clause-written : goal.returns-clause-written
returns-clause-written c =
    ap (λ R. field_of R c.args.field.now) (written c)
    ∙ field_of-with_field c.self.inside.chips.items c.args.field.now c.args.bits (can c)

pub returns-clause-others : goal.returns-clause-others
returns-clause-others c chip reg bit outside =
    bits_kept _ c.self.inside.chips.items c.args.self.now c.args.field.now c.args.bits chip reg bit (can c) (written c) c.self.view_is outside

pub invariant_of-self : goal.invariant_of-self
invariant_of-self c = subst IsImage (sym (written c)) (IsImage-with_field c.self.inside.chips.items c.args.field.now c.args.bits (can c))

pub returns-clause-other_fields : goal.returns-clause-other_fields
returns-clause-other_fields c other apart =
    ap (λ R. field_of R other) (written c)
    ∙ field_of-with_field_apart c.self.inside.chips.items c.args.field.now c.args.bits other (can c) apart
    ∙ ap (λ R. field_of R other) c.self.view_is
