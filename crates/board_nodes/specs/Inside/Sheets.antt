-- What holds of the data sheets of chips.
use Rattle.std.specs.Prelude.{ℕ, List, IfSome, flat_map}
use Rattle.std.specs.List.{AllByRecursion, enumerate_from}
use Rattle.chip_regs.specs.Clash.{NoneClash}
use Rattle.dts_tree.specs.Tree.{Node}
use Rattle.pmic_tables.specs.ChipDesc.{rails_of}
use Rattle.pmic_tables.specs.Sheet.{Sheet}
use Rattle.pmic_tables.specs.Sound.{fields_of, IsSoundOn}
use Rattle.board_nodes.specs.Chips.{sheet_at}

-- the rails of the data sheet are sound on this chip, and no two of their fields share a bit
pub record IsSoundSheet (number : ℕ) (sheet : Sheet) : Type 0 where
  pub rails : AllByRecursion (λ rail. IsSoundOn number rail.desc) (rails_of number sheet)
  pub apart : NoneClash (flat_map (λ rail. fields_of rail.desc) (rails_of number sheet))

-- that of a chip's node is
abbrev pub IsSoundChip : List Node → ℕ → ℕ → Type 0
IsSoundChip nodes number node = IfSome (sheet_at nodes node) (IsSoundSheet number)

-- that of each chip's node is, where the numbers begin at this one
abbrev pub AreSoundFrom : List Node → ℕ → List ℕ → Type 0
AreSoundFrom nodes number chips = AllByRecursion (λ chip. IsSoundChip nodes chip.0 chip.1) (enumerate_from number chips)
