-- The rails of rows, one after another.
use Rattle.std.proofs.Common.{◌≡◌, ℕ, List, ◌++◌, map, drop}
use Rattle.std.specs.Prelude.{IsTrue}
use Rattle.std.specs.List.{enumerate_from}
use Rattle.pmic_tables.specs.declared.chip_desc.ChipRail.{ChipRail}
use Rattle.pmic_tables.specs.declared.row.Row.{Row}
use Rattle.pmic_tables.specs.ChipDesc.{SeenRail, seen, rail_of}
use Rattle.pmic_tables.specs.Rows.{line_of, all_fit}

-- the rails of rows, the first at place k
abbrev pub rails_from : ℕ → ℕ → ℕ → List Row → List SeenRail
rails_from chip sleep k rows = map (λ at. rail_of chip sleep at.0 at.1) (enumerate_from k (map line_of rows))

-- the first i rows have become rails, and the others fit from place k on
pub record AreMade (chip sleep : ℕ) (rows : List Row) (rails : List ChipRail) (i k : ℕ) : Type 0 where
  pub made : map seen rails ++ rails_from chip sleep k (drop i rows) ≡ rails_from chip sleep 0 rows
  pub fit : IsTrue (all_fit k (drop i rows))
