-- What a table of a rail holds.
use Rattle.std.specs.Prelude.{ℕ, Bool, List, Option, None, Some, if◌then◌else◌}
use Rattle.linear_range.specs.Values.{value_of, values}
use Rattle.voltage_table.specs.Values.{value_of as entry_of, values as entries}
use Rattle.board.specs.declared.table.Table.{Table}
use Rattle.board.specs.declared.table.Table.TheVariants.{Ranges, List as Listed}

-- the value of a selector, in µV
abbrev pub uv_of : Table → ℕ → Option ℕ
uv_of (Ranges ranges) sel = value_of ranges sel
uv_of (Listed list) sel = entry_of list sel

-- the pairs (selector, µV), written out from selector 0 on
abbrev pub values_of : Table → List (ℕ × ℕ)
values_of (Ranges ranges) = values ranges
values_of (Listed list) = entries list

-- a pair whose value passes a test
abbrev pub passing : (ℕ → Bool) → Option (ℕ × ℕ) → Option (ℕ × ℕ)
passing ok None = None
passing ok (Some pair) = if ok pair.1 then Some pair else None
