use Rattle.std.specs.Prelude.{ℕ, ◌≡◌, ◌/◌, ◌%◌, ◌^◌, ◌↔◌, List, length, IsBitSet}
use Rattle.chip_regs.specs.declared.field.Field.{Field}
use Rattle.chip_regs.specs.Field.{IsField, HasBit, SharesBit}
use Rattle.chip_regs.specs.Registers.{IsImage, CanPut, byte_of, field_of, with_field}

-- what a field reads is its register's bits from the shift on, as many as the field is wide
abbrev pub FieldIsItsBits : Type 0
FieldIsItsBits =
    (R : List (List ℕ)) (f : Field) → (field : IsField f) → field_of R f ≡ byte_of R f.chip f.reg / 2 ^ f.shift % 2 ^ field.width

-- a field reads the number that was put into it
abbrev pub PutIsRead : Type 0
PutIsRead = (R : List (List ℕ)) (f : Field) (n : ℕ) → CanPut R f n → field_of (with_field R f n) f ≡ n

-- a field that shares no bit with it reads as before
abbrev pub PutKeepsFields : Type 0
PutKeepsFields = (R : List (List ℕ)) (f : Field) (n : ℕ) (g : Field) → CanPut R f n → ¬ SharesBit f g → field_of (with_field R f n) g ≡ field_of R g

-- every bit outside the field is as before
abbrev pub PutKeepsBits : Type 0
PutKeepsBits =
    (R : List (List ℕ)) (f : Field) (n chip reg bit : ℕ) → CanPut R f n → ¬ HasBit f chip reg bit
    → IsBitSet (byte_of (with_field R f n) chip reg) bit ↔ IsBitSet (byte_of R chip reg) bit

-- the chips stay, each with all its registers
abbrev pub PutKeepsChips : Type 0
PutKeepsChips = (R : List (List ℕ)) (f : Field) (n : ℕ) → CanPut R f n → IsImage (with_field R f n) × (length (with_field R f n) ≡ length R)

-- to put what a field reads changes nothing
abbrev pub PutOfSame : Type 0
PutOfSame = (R : List (List ℕ)) (f : Field) → IsField f → with_field R f (field_of R f) ≡ R
