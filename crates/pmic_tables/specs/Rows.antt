-- What the rows of a chip stand for in its data sheet.
use Rattle.std.specs.Prelude.{ℕ, List, [], ◌∷◌, map, length, Bool, true, ◌&&◌, ◌+◌, nat_le, nat_lt}
use Rattle.board.specs.declared.table.Table.{Table}
use Rattle.pmic_tables.specs.declared.kind.Kind.{Kind}
use Rattle.pmic_tables.specs.declared.kind.Kind.TheVariants.{Buck, Ldo}
use Rattle.pmic_tables.specs.declared.values.Values.{Values}
use Rattle.pmic_tables.specs.declared.values.Values.TheVariants.{Pm4Core, Pm4Io, Pm4Usb, Pm8Core, Pm8Memory, Pm8Linear, Pm12Core, Pm12Linear, Pm12Various}
use Rattle.pmic_tables.specs.declared.row.Row.{Row}
use Rattle.pmic_tables.specs.Sheet.{Sheet, Line, line}
use Rattle.pmic_tables.specs.Pm4.{core as core4, io as io4, usb as usb4}
use Rattle.pmic_tables.specs.Pm8.{core as core8, memory as memory8, linear as linear8}
use Rattle.pmic_tables.specs.Pm12.{core as core12, linear as linear12, various as various12}

-- the values by their name
abbrev pub table_of : Values → Table
table_of Pm4Core = core4
table_of Pm4Io = io4
table_of Pm4Usb = usb4
table_of Pm8Core = core8
table_of Pm8Memory = memory8
table_of Pm8Linear = linear8
table_of Pm12Core = core12
table_of Pm12Linear = linear12
table_of Pm12Various = various12

-- the line of a row
abbrev pub line_of : Row → Line
line_of row = line row.0.now row.1.now (table_of row.2) row.3 row.4 row.5

-- the data sheet with these rows
abbrev pub sheet_of : List Row → List (ℕ × ℕ) → ℕ → Sheet
sheet_of rows resets sleep = record { lines = map line_of rows; resets = resets; sleep = sleep }

-- there is room for a rail of this kind at place k
abbrev pub has_room : ℕ → Kind → Bool
has_room k (Buck ramp) = nat_lt k 4
has_room k (Ldo dropout) = nat_lt k 16

-- there is room for the row at place k, and its names have at most 64 bytes
abbrev pub fits : ℕ → Row → Bool
fits k row = has_room k row.5 && nat_le (length row.0.now) 64 && nat_le (length row.1.now) 64

-- each row fits, the first at place k
abbrev pub all_fit : ℕ → List Row → Bool
all_fit k [] = true
all_fit k (row ∷ rows) = fits k row && all_fit (k + 1) rows
