-- a field after a put: what it reads, and what every other bit reads
use Rattle.std.proofs.Common.{ℕ, ◌≡◌, ◌+◌, ◌-◌, ◌*◌, ◌/◌, ◌%◌, ◌^◌, ◌<◌, ◌≤◌, ◌↔◌, List, bit_and, bit_or, arith, refl, sym, ◌∙◌, ap, subst, inl, inr, [], length, slice_index_or, slice_set}
use Rattle.std.specs.Prelude.{IsBitSet}
use Rattle.std.proofs.lemmas.Nat.{shl-shr, pow_pos, and_le_l, and_le_r, and_mask, and_shr, or_lt}
use Rattle.std.proofs.lemmas.List.{set-get_or}
use Rattle.std.proofs.lemmas.Bool.{cases_eq}
use Rattle.std.proofs.Math.Nat.{mod-eq_of_lt}
use Rattle.chip_regs.specs.Width.{register_contents, register_width}
use Rattle.chip_regs.specs.declared.field.Field.{Field}
use Rattle.chip_regs.specs.Field.{IsField, FitsField, HasBit, SharesBit}
use Rattle.chip_regs.specs.Registers.{IsImage, CanPut, chip_of, byte_of, with_byte, field_of, with_field}
use Rattle.chip_regs.proofs.Masks.{kept_of, kept_of-not, and-merged, and-merged_apart, merged, and-run, run_below, and-high_run, common-bit}
use Rattle.chip_regs.proofs.Image.{IsImage-with_byte, length-with_byte, byte_of-lt, byte_of-with_byte, byte_of-with_byte_other}

pub mask-lt : (f : Field) → IsField f → f.mask < register_contents
mask-lt f field = rw field.run (run_below field.width f.shift field.within)

-- the greatest number of a field has as many ones as the field has bits
pub below-width : (f : Field) (n : ℕ) → (field : IsField f) → FitsField f n → n < 2 ^ field.width
below-width f n field room =
    let most : f.mask / 2 ^ f.shift ≡ 2 ^ field.width - 1 = ap (λ x. x / 2 ^ f.shift) field.run ∙ shl-shr (2 ^ field.width - 1) f.shift in
    omega (arith, pow_pos field.width)

-- a number that fits has all of its bits under the mask
pub and-mask : (f : Field) (n : ℕ) → IsField f → FitsField f n → bit_and (n * 2 ^ f.shift) f.mask ≡ n * 2 ^ f.shift
and-mask f n field room = ap (bit_and (n * 2 ^ f.shift)) field.run ∙ and-run field.width f.shift n (below-width f n field room)

pub part-lt : (f : Field) (n : ℕ) → IsField f → FitsField f n → n * 2 ^ f.shift < register_contents
part-lt f n field room =
    let under : bit_and (n * 2 ^ f.shift) f.mask ≤ f.mask = and_le_r (n * 2 ^ f.shift) f.mask in
    omega (arith, under, and-mask f n field room, mask-lt f field)

-- the byte that `put` writes
pub put-byte :
    (f : Field) (byte n : ℕ) → IsField f → FitsField f n → byte < register_contents
    → bit_or (bit_and byte (register_contents - 1 - f.mask)) (n * 2 ^ f.shift % register_contents) ≡ kept_of byte f.mask + n * 2 ^ f.shift
put-byte f byte n field room small =
    ap (λ x. bit_or (bit_and byte (register_contents - 1 - f.mask)) x) (mod-eq_of_lt (part-lt f n field room))
    ∙ ap (λ x. bit_or x (n * 2 ^ f.shift)) (kept_of-not byte f.mask small (mask-lt f field))
    ∙ merged byte f.mask (n * 2 ^ f.shift) small (mask-lt f field) (and-mask f n field room)

-- the byte that a put leaves, under the mask
pub and-with_field_same :
    (R : List (List ℕ)) (f : Field) (n : ℕ) → CanPut R f n → bit_and (byte_of (with_field R f n) f.chip f.reg) f.mask ≡ n * 2 ^ f.shift
unfolding with_field
and-with_field_same R f n can =
    let byte = byte_of R f.chip f.reg in
    ap (λ x. bit_and x f.mask) (byte_of-with_byte R f.chip f.reg (kept_of byte f.mask + n * 2 ^ f.shift) can.image can.chip can.reg)
    ∙ and-merged byte f.mask (n * 2 ^ f.shift) (byte_of-lt R f.chip f.reg can.image can.chip) (mask-lt f can.field) (and-mask f n can.field can.room)

-- a byte that a put leaves, under bits that are not the field's
pub and-with_field_apart :
    (R : List (List ℕ)) (f : Field) (n chip reg mask : ℕ) → CanPut R f n → (f.chip ≡ chip → f.reg ≡ reg → bit_and f.mask mask ≡ 0)
    → bit_and (byte_of (with_field R f n) chip reg) mask ≡ bit_and (byte_of R chip reg) mask
unfolding with_field
and-with_field_apart R f n chip reg mask can apart =
    let byte = byte_of R f.chip f.reg in
    let new = kept_of byte f.mask + n * 2 ^ f.shift in
    elim (cases_eq chip f.chip) [
      | inr differs ↦ ap (λ x. bit_and x mask) (byte_of-with_byte_other R f.chip f.reg new chip reg can.chip (inl differs))
      | inl same ↦ elim (cases_eq reg f.reg) [
        | inr differs ↦ ap (λ x. bit_and x mask) (byte_of-with_byte_other R f.chip f.reg new chip reg can.chip (inr differs))
        | inl at ↦
            ap (λ x. bit_and (byte_of (with_byte R f.chip f.reg new) x reg) mask) same
            ∙ ap (λ x. bit_and (byte_of (with_byte R f.chip f.reg new) f.chip x) mask) at
            ∙ ap (λ x. bit_and x mask) (byte_of-with_byte R f.chip f.reg new can.image can.chip can.reg)
            ∙ and-merged_apart byte f.mask (n * 2 ^ f.shift) mask (byte_of-lt R f.chip f.reg can.image can.chip) (mask-lt f can.field)
            (and-mask f n can.field can.room) (apart (sym same) (sym at))
            ∙ ap (λ x. bit_and (byte_of R x f.reg) mask) (sym same)
            ∙ ap (λ x. bit_and (byte_of R chip x) mask) (sym at)
      ]
    ]

-- the field reads what was put
pub field_of-with_field : (R : List (List ℕ)) (f : Field) (n : ℕ) → CanPut R f n → field_of (with_field R f n) f ≡ n
unfolding field_of
field_of-with_field R f n can = ap (λ x. x / 2 ^ f.shift) (and-with_field_same R f n can) ∙ shl-shr n f.shift

-- every bit outside the field is as before
pub bits-with_field :
    (R : List (List ℕ)) (f : Field) (n chip reg bit : ℕ) → CanPut R f n → ¬ HasBit f chip reg bit
    → IsBitSet (byte_of (with_field R f n) chip reg) bit ↔ IsBitSet (byte_of R chip reg) bit
bits-with_field R f n chip reg bit can outside =
    let clear : f.chip ≡ chip → f.reg ≡ reg → bit_and f.mask (2 ^ bit) ≡ 0 = λ c r. elim (cases_eq (bit_and f.mask (2 ^ bit)) 0) [
      | inl is ↦ is
      | inr set ↦ absurd (outside (c, r, set))
    ] in
    let same = and-with_field_apart R f n chip reg (2 ^ bit) can clear in
    (λ set is. set (same ∙ is), λ set is. set (sym same ∙ is))

-- what `put` leaves: one register of one chip written
pub put-registers :
    (R : List (List ℕ)) (f : Field) (n chip reg : ℕ) (line : List ℕ) → CanPut R f n → chip ≡ f.chip → reg ≡ f.reg → line ≡ chip_of R f.chip
    → slice_set R chip (slice_set line reg (bit_or (bit_and (slice_index_or line reg 0) (register_contents - 1 - f.mask)) (n * 2 ^ f.shift % register_contents))) ≡ with_field R f n
unfolding with_field with_byte byte_of
put-registers R f n chip reg line can at_chip at_reg is =
    let byte = slice_index_or (chip_of R f.chip) f.reg 0 in
    let small : byte < register_contents = byte_of-lt R f.chip f.reg can.image can.chip in
    ap (λ c. slice_set R c (slice_set line reg (bit_or (bit_and (slice_index_or line reg 0) (register_contents - 1 - f.mask)) (n * 2 ^ f.shift % register_contents)))) at_chip
    ∙ ap (λ r. slice_set R f.chip (slice_set line r (bit_or (bit_and (slice_index_or line r 0) (register_contents - 1 - f.mask)) (n * 2 ^ f.shift % register_contents)))) at_reg
    ∙ ap (λ l. slice_set R f.chip (slice_set l f.reg (bit_or (bit_and (slice_index_or l f.reg 0) (register_contents - 1 - f.mask)) (n * 2 ^ f.shift % register_contents)))) is
    ∙ ap (λ b. slice_set R f.chip (slice_set (chip_of R f.chip) f.reg b)) (put-byte f byte n can.field can.room small)

pub IsImage-with_field : (R : List (List ℕ)) (f : Field) (n : ℕ) → CanPut R f n → IsImage (with_field R f n)
unfolding with_field
IsImage-with_field R f n can =
    let byte = byte_of R f.chip f.reg in
    let small : byte < register_contents = byte_of-lt R f.chip f.reg can.image can.chip in
    let masked = mask-lt f can.field in
    let inside = and-mask f n can.field can.room in
    let new : kept_of byte f.mask + n * 2 ^ f.shift < register_contents =
    subst (λ x. x < register_contents) (merged byte f.mask (n * 2 ^ f.shift) small masked inside)
    (or_lt register_width (kept_of byte f.mask) (n * 2 ^ f.shift) (omega arith) (part-lt f n can.field can.room)) in
    IsImage-with_byte R f.chip f.reg (kept_of byte f.mask + n * 2 ^ f.shift) can.chip new can.image

pub length-with_field : (R : List (List ℕ)) (f : Field) (n : ℕ) → length (with_field R f n) ≡ length R
unfolding with_field
length-with_field R f n =
    let byte = byte_of R f.chip f.reg in
    length-with_byte R f.chip f.reg (byte - bit_and byte f.mask + n * 2 ^ f.shift)

pub bits_kept :
    (new R old : List (List ℕ)) (f : Field) (n chip reg bit : ℕ) → CanPut R f n → new ≡ with_field R f n → R ≡ old → ¬ HasBit f chip reg bit
    → IsBitSet (byte_of new chip reg) bit ↔ IsBitSet (byte_of old chip reg) bit
bits_kept new R old f n chip reg bit can is was outside =
    let same : IsBitSet (byte_of (with_field R f n) chip reg) bit ↔ IsBitSet (byte_of R chip reg) bit = bits-with_field R f n chip reg bit can outside in
    subst (λ x. IsBitSet (byte_of x chip reg) bit ↔ IsBitSet (byte_of old chip reg) bit) (sym is)
    (subst (λ x. IsBitSet (byte_of (with_field R f n) chip reg) bit ↔ IsBitSet (byte_of x chip reg) bit) was same)

-- fields that share no bit are apart
pub apart-masks : (f g : Field) → IsField f → ¬ SharesBit f g → f.chip ≡ g.chip → f.reg ≡ g.reg → bit_and f.mask g.mask ≡ 0
apart-masks f g field apart chip reg =
    elim (cases_eq (bit_and f.mask g.mask) 0) [
      | inl is ↦ is
      | inr meet ↦
          let common = common-bit f.mask g.mask (mask-lt f field) meet in
          absurd (apart (record {
            chip = g.chip;
            reg = g.reg;
            bit = common.0;
            in_first = (chip, reg, common.1);
            in_second = (refl, refl, common.2);
          }))
    ]

-- a field that shares no bit reads as before
pub field_of-with_field_apart :
    (R : List (List ℕ)) (f : Field) (n : ℕ) (g : Field) → CanPut R f n → ¬ SharesBit f g → field_of (with_field R f n) g ≡ field_of R g
unfolding field_of
field_of-with_field_apart R f n g can apart =
    ap (λ x. x / 2 ^ g.shift) (and-with_field_apart R f n g.chip g.reg g.mask can (apart-masks f g can.field apart))

-- the bits of a field's mask, counted from its shift on, fit it
pub FitsField-masked : (f : Field) (byte : ℕ) → FitsField f (bit_and byte f.mask / 2 ^ f.shift)
FitsField-masked f byte =
    subst (λ x. x ≤ f.mask / 2 ^ f.shift) (sym (and_shr byte f.mask f.shift)) (and_le_r (byte / 2 ^ f.shift) (f.mask / 2 ^ f.shift))

pub FitsField-field_of : (R : List (List ℕ)) (f : Field) → FitsField f (field_of R f)
unfolding field_of
FitsField-field_of R f = FitsField-masked f (byte_of R f.chip f.reg)

-- a byte under a field's mask is as many of its bits as the field is wide, at their place
pub and-field : (f : Field) (byte : ℕ) → (field : IsField f) → bit_and byte f.mask ≡ byte / 2 ^ f.shift % 2 ^ field.width * 2 ^ f.shift
and-field f byte field =
    ap (bit_and byte) field.run
    ∙ and-high_run byte field.width f.shift
    ∙ ap (λ x. x * 2 ^ f.shift) (and_mask (byte / 2 ^ f.shift) field.width)

pub field_of-bits :
    (R : List (List ℕ)) (f : Field) → (field : IsField f) → field_of R f ≡ byte_of R f.chip f.reg / 2 ^ f.shift % 2 ^ field.width
unfolding field_of
field_of-bits R f field =
    let byte = byte_of R f.chip f.reg in
    ap (λ x. x / 2 ^ f.shift) (and-field f byte field) ∙ shl-shr (byte / 2 ^ f.shift % 2 ^ field.width) f.shift

-- no bit of the mask lies below its shift
masked_whole : (f : Field) (byte : ℕ) → IsField f → bit_and byte f.mask / 2 ^ f.shift * 2 ^ f.shift ≡ bit_and byte f.mask
masked_whole f byte field =
    let number = byte / 2 ^ f.shift % 2 ^ field.width in
    ap (λ x. x / 2 ^ f.shift * 2 ^ f.shift) (and-field f byte field)
    ∙ ap (λ x. x * 2 ^ f.shift) (shl-shr number f.shift)
    ∙ sym (and-field f byte field)

-- a put of what the field reads changes nothing
pub with_field-field_of : (R : List (List ℕ)) (f : Field) → IsField f → with_field R f (field_of R f) ≡ R
unfolding with_field field_of with_byte byte_of
with_field-field_of R f field =
    let chip = chip_of R f.chip in
    let byte = slice_index_or chip f.reg 0 in
    let part = bit_and byte f.mask in
    let whole : part / 2 ^ f.shift * 2 ^ f.shift ≡ part = masked_whole f byte field in
    let same : byte - part + part / 2 ^ f.shift * 2 ^ f.shift ≡ byte = omega (arith, whole, and_le_l byte f.mask) in
    ap (λ b. slice_set R f.chip (slice_set chip f.reg b)) same
    ∙ ap (λ c. slice_set R f.chip c) (set-get_or chip f.reg 0)
    ∙ set-get_or R f.chip []
