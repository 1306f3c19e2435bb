use Rattle.std.specs.Prelude.{ℕ, ◌≡◌, ◌+◌, ◌-◌, ◌*◌, ◌/◌, ◌^◌, ◌<◌, ◌≤◌, IsBitSet}
use Rattle.chip_regs.specs.Width.{register_width}
use Rattle.chip_regs.specs.declared.field.Field.{Field}

-- the mask is one run of ones that starts at the bit `shift`, within a register
pub record IsField (f : Field) : Type 0 where
  pub width : ℕ
  pub some_bit : 0 < width
  pub within : f.shift + width ≤ register_width
  pub run : f.mask ≡ (2 ^ width - 1) * 2 ^ f.shift

-- the greatest number that the field can hold: ones in all of its bits
abbrev pub greatest_of : Field → ℕ
greatest_of f = f.mask / 2 ^ f.shift

-- the number has no bit outside the field's width
abbrev pub FitsField : Field → ℕ → Type 0
FitsField f n = n ≤ greatest_of f

-- the field has this bit of this register
abbrev pub HasBit : Field → ℕ → ℕ → ℕ → Type 0
HasBit f chip reg bit = (f.chip ≡ chip) × (f.reg ≡ reg) × IsBitSet f.mask bit

-- some bit of some register is in both fields
pub record SharesBit (f g : Field) : Type 0 where
  pub chip : ℕ
  pub reg : ℕ
  pub bit : ℕ
  pub in_first : HasBit f chip reg bit
  pub in_second : HasBit g chip reg bit
