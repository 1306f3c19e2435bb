-- Registers bit by bit: what a put of 0 and the clearing of fields leave, and when two images are one.
use Rattle.std.proofs.Common.{◌≡◌, ℕ, ◌*◌, ◌^◌, ◌<◌, Bool, true, false, ◌&&◌, ◌||◌, eqb, List, [], ◌∷◌, bit_and, refl, sym, ap, subst, ◌∙◌, inl, inr, arith, length, get_or, eq-eqb, All}
use Rattle.std.specs.Int.{bit_at}
use Rattle.std.specs.List.{list_any}
use Rattle.std.proofs.lemmas.Bool.{eqb-true, and_parts, cases_eq, false≢true}
use Rattle.std.proofs.lemmas.List.{ext_get_or}
use Rattle.std.proofs.lemmas.List.Elements.{All-head, All-tail, All-weaker}
use Rattle.std.proofs.lemmas.Nat.Bits.{bit_at_and, bit_at-lt, bit_at-zero, bit_at-pow_same, and_pow, same_from_bits}
use Rattle.chip_regs.specs.Width.{chip_registers}
use Rattle.chip_regs.specs.declared.field.Field.{Field}
use Rattle.chip_regs.specs.Field.{IsField}
use Rattle.chip_regs.specs.Registers.{IsImage, HasChip, CanPut, byte_of, field_of, with_field}
use Rattle.chip_regs.proofs.Fields.{and-field, and-with_field_same, and-with_field_apart, field_of-bits, IsImage-with_field, length-with_field}
use Rattle.rail_ops.specs.Foreign.{cleared}

-- a bit of a register
abbrev pub bit_of : List (List ℕ) → ℕ → ℕ → ℕ → ℕ
bit_of R chip reg bit = bit_at (byte_of R chip reg) bit

-- the field has this bit of this register
abbrev pub has_bit : ℕ → ℕ → ℕ → Field → Bool
has_bit chip reg bit f = eqb f.chip chip && (eqb f.reg reg && eqb (bit_at f.mask bit) 1)

-- one of the fields has it
abbrev pub in_fields : List Field → ℕ → ℕ → ℕ → Bool
in_fields fields chip reg bit = list_any (has_bit chip reg bit) fields

-- 0 where the bit is in a field, and else what it was
abbrev pub unless : Bool → ℕ → ℕ
unless true n = 0
unless false n = n

unless_both : (a b : Bool) (n : ℕ) → unless b (unless a n) ≡ unless (a || b) n
unless_both true true n = refl
unless_both true false n = refl
unless_both false true n = refl
unless_both false false n = refl

-- the field lies in the registers
pub record Lies (R : List (List ℕ)) (f : Field) : Type 0 where
  pub chip : HasChip R f.chip
  pub reg : f.reg < chip_registers
  pub field : IsField f

-- numbers that are the same under a mask have the same bits of it
pub same_bit : (a b mask bit : ℕ) → bit_and a mask ≡ bit_and b mask → bit_at mask bit ≡ 1 → bit_at a bit ≡ bit_at b bit
same_bit a b mask bit same set =
    let in_a = bit_at_and a mask bit in
    let in_b = bit_at_and b mask bit in
    let both : bit_at (bit_and a mask) bit ≡ bit_at (bit_and b mask) bit = ap (λ n. bit_at n bit) same in
    omega (arith, in_a, in_b, both, set, bit_at-lt a bit, bit_at-lt b bit)

-- where a field hasn't a bit, its mask hasn't, if it is of that register
bit_apart : (f : Field) (chip reg bit : ℕ) → has_bit chip reg bit f ≡ false → f.chip ≡ chip → f.reg ≡ reg → bit_and f.mask (2 ^ bit) ≡ 0
bit_apart f chip reg bit apart same_chip same_reg =
    elim (cases_eq (bit_at f.mask bit) 1) [
      | inl set ↦ absurd (false≢true (sym apart ∙ rw (eq-eqb f.chip chip same_chip) (rw (eq-eqb f.reg reg same_reg) (eq-eqb (bit_at f.mask bit) 1 set))))
      | inr clear ↦
          let none : bit_at f.mask bit ≡ 0 = omega (arith, clear, bit_at-lt f.mask bit) in
          let product : bit_and f.mask (2 ^ bit) ≡ 0 * 2 ^ bit = and_pow f.mask bit ∙ ap (λ n. n * 2 ^ bit) none in
          omega (arith, product)
    ]

-- a put leaves the bits that the field hasn't
pub bit_kept : (R : List (List ℕ)) (f : Field) (n chip reg bit : ℕ) → CanPut R f n → has_bit chip reg bit f ≡ false → bit_of (with_field R f n) chip reg bit ≡ bit_of R chip reg bit
bit_kept R f n chip reg bit can apart =
    same_bit (byte_of (with_field R f n) chip reg) (byte_of R chip reg) (2 ^ bit) bit
    (and-with_field_apart R f n chip reg (2 ^ bit) can (bit_apart f chip reg bit apart)) (bit_at-pow_same bit)

-- what a field that has the bit says of it
record Has (f : Field) (at_chip at_reg bit : ℕ) : Type 0 where
  chip : f.chip ≡ at_chip
  reg : f.reg ≡ at_reg
  set : bit_at f.mask bit ≡ 1

has : (f : Field) (at_chip at_reg bit : ℕ) → has_bit at_chip at_reg bit f ≡ true → Has f at_chip at_reg bit
has f at_chip at_reg bit is =
    let parts = and_parts (eqb f.chip at_chip) (eqb f.reg at_reg && eqb (bit_at f.mask bit) 1) is in
    let rest = and_parts (eqb f.reg at_reg) (eqb (bit_at f.mask bit) 1) parts.1 in
    record { chip = eqb-true f.chip at_chip parts.0; reg = eqb-true f.reg at_reg rest.0; set = eqb-true (bit_at f.mask bit) 1 rest.1 }

-- the bits of a field that two images read alike are the same
pub bit_read : (a b : List (List ℕ)) (f : Field) (chip reg bit : ℕ) → IsField f → field_of a f ≡ field_of b f → has_bit chip reg bit f ≡ true → bit_of a chip reg bit ≡ bit_of b chip reg bit
bit_read a b f chip reg bit field same is =
    let there = has f chip reg bit is in
    let under : bit_and (byte_of a f.chip f.reg) f.mask ≡ bit_and (byte_of b f.chip f.reg) f.mask =
    and-field f (byte_of a f.chip f.reg) field
    ∙ ap (λ n. n * 2 ^ f.shift) (sym (field_of-bits a f field) ∙ same ∙ field_of-bits b f field)
    ∙ sym (and-field f (byte_of b f.chip f.reg) field) in
    let alike : bit_of a f.chip f.reg bit ≡ bit_of b f.chip f.reg bit = same_bit (byte_of a f.chip f.reg) (byte_of b f.chip f.reg) f.mask bit under there.set in
    subst (λ (c : ℕ). bit_of a c reg bit ≡ bit_of b c reg bit) there.chip (subst (λ (r : ℕ). bit_of a f.chip r bit ≡ bit_of b f.chip r bit) there.reg alike)

-- a put of 0 clears the bits that the field has
bit_gone : (R : List (List ℕ)) (f : Field) (chip reg bit : ℕ) → CanPut R f 0 → has_bit chip reg bit f ≡ true → bit_of (with_field R f 0) chip reg bit ≡ 0
bit_gone R f chip reg bit can is =
    let there = has f chip reg bit is in
    let none : bit_and (byte_of (with_field R f 0) f.chip f.reg) f.mask ≡ bit_and 0 f.mask = and-with_field_same R f 0 can ∙ omega arith in
    let alike : bit_of (with_field R f 0) f.chip f.reg bit ≡ 0 = same_bit (byte_of (with_field R f 0) f.chip f.reg) 0 f.mask bit none there.set ∙ bit_at-zero bit in
    subst (λ (c : ℕ). bit_of (with_field R f 0) c reg bit ≡ 0) there.chip (subst (λ (r : ℕ). bit_of (with_field R f 0) f.chip r bit ≡ 0) there.reg alike)

bit_cleared : (R : List (List ℕ)) (f : Field) (chip reg bit : ℕ) → CanPut R f 0 → (t : Bool) → has_bit chip reg bit f ≡ t → bit_of (with_field R f 0) chip reg bit ≡ unless t (bit_of R chip reg bit)
bit_cleared R f chip reg bit can true is = bit_gone R f chip reg bit can is
bit_cleared R f chip reg bit can false is = bit_kept R f 0 chip reg bit can is

abbrev pub AllLie : List (List ℕ) → List Field → Type 0
AllLie R fields = All (Lies R) fields

can_clear : (R : List (List ℕ)) (f : Field) → IsImage R → Lies R f → CanPut R f 0
can_clear R f image lies = record { image = image; chip = lies.chip; reg = lies.reg; field = lies.field; room = omega arith }

-- a put moves no field
pub still_lie : (R : List (List ℕ)) (fields : List Field) (f : Field) (n : ℕ) → AllLie R fields → AllLie (with_field R f n) fields
still_lie R fields f n all =
    All-weaker (Lies R) (Lies (with_field R f n)) (λ g lies. record { chip = rw (length-with_field R f n) lies.chip; reg = lies.reg; field = lies.field }) fields all

-- the fields cleared, bit by bit
pub cleared_bit : (fields : List Field) (R : List (List ℕ)) (chip reg bit : ℕ) → IsImage R → AllLie R fields
    → bit_of (cleared fields R) chip reg bit ≡ unless (in_fields fields chip reg bit) (bit_of R chip reg bit)
cleared_bit [] R chip reg bit image all = refl
cleared_bit (f ∷ fields) R chip reg bit image all =
    let can = can_clear R f image (All-head (Lies R) f fields all) in
    cleared_bit fields (with_field R f 0) chip reg bit (IsImage-with_field R f 0 can) (still_lie R fields f 0 (All-tail (Lies R) f fields all))
    ∙ ap (unless (in_fields fields chip reg bit)) (bit_cleared R f chip reg bit can (has_bit chip reg bit f) refl)
    ∙ unless_both (has_bit chip reg bit f) (in_fields fields chip reg bit) (bit_of R chip reg bit)

pub IsImage-cleared : (fields : List Field) (R : List (List ℕ)) → IsImage R → AllLie R fields → IsImage (cleared fields R)
IsImage-cleared [] R image all = image
IsImage-cleared (f ∷ fields) R image all =
    IsImage-cleared fields (with_field R f 0) (IsImage-with_field R f 0 (can_clear R f image (All-head (Lies R) f fields all)))
    (still_lie R fields f 0 (All-tail (Lies R) f fields all))

pub length-cleared : (fields : List Field) (R : List (List ℕ)) → length (cleared fields R) ≡ length R
length-cleared [] R = refl
length-cleared (f ∷ fields) R = length-cleared fields (with_field R f 0) ∙ length-with_field R f 0

-- images with the same bits are one
pub same_image : (a b : List (List ℕ)) → IsImage a → IsImage b → length a ≡ length b → ((chip reg bit : ℕ) → bit_of a chip reg bit ≡ bit_of b chip reg bit) → a ≡ b
unfolding byte_of
same_image a b image_a image_b chips bits =
    ext_get_or [] a b chips (λ chip within.
    ext_get_or 0 (get_or a chip []) (get_or b chip []) ((image_a chip [] within).0 ∙ sym (image_b chip [] (subst (λ (n : ℕ). chip < n) chips within)).0) (λ reg inside.
    same_from_bits (byte_of a chip reg) (byte_of b chip reg) (bits chip reg)))
