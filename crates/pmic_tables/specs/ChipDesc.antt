-- When a description is that of a chip's data sheet.
use Rattle.std.specs.Prelude.{ℕ, ◌≡◌, List, map}
use Rattle.std.specs.List.{enumerate_from}
use Rattle.board.specs.declared.desc.Desc.{Desc}
use Rattle.pmic_tables.specs.declared.chip_desc.ChipDesc.{ChipDesc}
use Rattle.pmic_tables.specs.declared.chip_desc.ChipRail.{ChipRail}
use Rattle.pmic_tables.specs.Sheet.{Line, Sheet}
use Rattle.pmic_tables.specs.Rules.{desc_of}

-- a rail with its names as bytes
pub record SeenRail : Type 0 where
  pub node : List ℕ
  pub supply : List ℕ
  pub desc : Desc

abbrev pub seen : ChipRail → SeenRail
seen rail = record { node = rail.node.bytes; supply = rail.supply.bytes; desc = rail.desc }

-- the rail of a line at place k
abbrev pub rail_of : ℕ → ℕ → ℕ → Line → SeenRail
rail_of chip sleep k line = record { node = line.node; supply = line.supply; desc = desc_of chip sleep k line }

-- the rails of a data sheet in order, on chip `chip` of a board
abbrev pub rails_of : ℕ → Sheet → List SeenRail
rails_of chip sheet = map (λ at. rail_of chip sheet.sleep at.0 at.1) (enumerate_from 0 sheet.lines)

-- the description has the rails of the data sheet, and its resets
pub record IsDescribed (chip : ℕ) (sheet : Sheet) (desc : ChipDesc) : Type 0 where
  pub rails : map seen desc.rails ≡ rails_of chip sheet
  pub resets : desc.resets ≡ sheet.resets
