-- Which names are chips.
use Rattle.std.specs.Prelude.{ℕ, List, Option, Some, None, codes, if◌then◌else◌}
use Rattle.std.specs.Str.{bytes_eq}
use Rattle.pmic_tables.specs.Sheet.{Sheet}
use Rattle.pmic_tables.specs.Pm4.{pm4}
use Rattle.pmic_tables.specs.Pm8.{pm8}
use Rattle.pmic_tables.specs.Pm12.{pm12}

-- the data sheet of a name, as it stands in `compatible`
abbrev pub sheet_named : List ℕ → Option Sheet
sheet_named name =
    if bytes_eq name (codes "example,pm4") then Some pm4
    else if bytes_eq name (codes "example,pm8") then Some pm8
    else if bytes_eq name (codes "example,pm12") then Some pm12
    else None
