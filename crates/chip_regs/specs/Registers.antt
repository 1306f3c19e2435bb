use Rattle.std.specs.Prelude.{ℕ, ◌≡◌, ◌+◌, ◌-◌, ◌*◌, ◌/◌, ◌^◌, ◌<◌, List, [], length, slice_index, slice_index_or, slice_set, All, bit_and}
use Rattle.chip_regs.specs.Width.{chip_registers, register_contents}
use Rattle.chip_regs.specs.declared.field.Field.{Field}
use Rattle.chip_regs.specs.Field.{IsField, FitsField}

-- each chip has all its registers, and each register holds a number of its width
abbrev pub IsImage : List (List ℕ) → Type 0
IsImage R = All (λ chip. (length chip ≡ chip_registers) × All (λ byte. byte < register_contents) chip) R

-- the chip is one of those whose registers these are
abbrev pub HasChip : List (List ℕ) → ℕ → Type 0
HasChip R chip = chip < length R

-- the registers of one chip
abbrev pub chip_of : List (List ℕ) → ℕ → List ℕ
chip_of R chip = slice_index_or R chip []

-- the content of a register of a chip
unfoldable pub byte_of : List (List ℕ) → ℕ → ℕ → ℕ
byte_of R chip reg = slice_index (chip_of R chip) reg

-- the registers with another content of one register
unfoldable pub with_byte : List (List ℕ) → ℕ → ℕ → ℕ → List (List ℕ)
with_byte R chip reg byte = slice_set R chip (slice_set (chip_of R chip) reg byte)

-- the number in a field: the bits of its mask, counted from the bit `shift` on
unfoldable pub field_of : List (List ℕ) → Field → ℕ
field_of R f = bit_and (byte_of R f.chip f.reg) f.mask / 2 ^ f.shift

-- the registers with this number in the field: what its register holds outside the field, and the number from the bit `shift` on
unfoldable pub with_field : List (List ℕ) → Field → ℕ → List (List ℕ)
with_field R f n =
    let byte = byte_of R f.chip f.reg in
    with_byte R f.chip f.reg (byte - bit_and byte f.mask + n * 2 ^ f.shift)

-- the number may be put into the field: the field is in these registers, and the number fits it
pub record CanPut (R : List (List ℕ)) (f : Field) (n : ℕ) : Type 0 where
  pub image : IsImage R
  pub chip : HasChip R f.chip
  pub reg : f.reg < chip_registers
  pub field : IsField f
  pub room : FitsField f n
