-- When the description of a rail is sound, in a data sheet as on a board.
use Rattle.std.specs.Prelude.{ℕ, ◌≡◌, ◌-◌, ◌^◌, ◌<◌, ◌↔◌, Option, Some, IfSome, IsSome}
use Rattle.chip_regs.specs.declared.field.Field.{Field}
use Rattle.chip_regs.specs.Field.{IsField, FitsField, greatest_of}
use Rattle.board.specs.declared.desc.Desc.{Desc}
use Rattle.board.specs.declared.part.Part.{Part}
use Rattle.board.specs.declared.part.Part.TheVariants.{Selector, Enable, ModePart, SuspendEnable, SuspendSelector}
use Rattle.board.specs.declared.table.Table.{Table}
use Rattle.board.specs.Table.{uv_of}

-- the field of a part, where the description has one
abbrev pub described_field : Part → Desc → Option Field
described_field Selector desc = desc.selector
described_field Enable desc = Some desc.enable
described_field ModePart desc = desc.modes
described_field SuspendEnable desc = desc.suspend_enable
described_field SuspendSelector desc = desc.suspend_selector

-- a field is one run of bits of a register, in one of so many chips
pub record IsPlaced (chips : ℕ) (field : Field) : Type 0 where
  pub shape : IsField field
  pub chip : field.chip < chips

-- each field of the description is
abbrev pub ArePlaced : ℕ → Desc → Type 0
ArePlaced chips desc = (part : Part) → IfSome (described_field part desc) (IsPlaced chips)

-- the numbers that the field can hold are the selectors with a value
abbrev pub HoldsSelectors : Table → Field → Type 0
HoldsSelectors table field = (n : ℕ) → FitsField field n ↔ IsSome (uv_of table n)

-- a field of so many bits
abbrev pub HasBits : ℕ → Field → Type 0
HasBits n field = greatest_of field ≡ 2 ^ n - 1

-- what holds of a description by itself, on so many chips: its fields lie there, and each is as
-- wide as what it holds, a selector, one bit, or one of four modes
pub record IsSoundDesc (chips : ℕ) (desc : Desc) : Type 0 where
  pub placed : ArePlaced chips desc
  pub selector : IfSome desc.selector (HoldsSelectors desc.table)
  pub enable : HasBits 1 desc.enable
  pub suspend_enable : IfSome desc.suspend_enable (HasBits 1)
  pub modes : IfSome desc.modes (HasBits 2)
