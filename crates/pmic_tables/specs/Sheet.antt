-- What the data sheet of a chip has: a line for each rail, and the registers.
use Rattle.std.specs.Prelude.{ℕ, List, [], ◌∷◌}
use Rattle.linear_range.specs.declared.linear_range.LinearRange.{LinearRange}
use Rattle.board.specs.declared.table.Table.{Table}
use Rattle.board.specs.declared.table.Table.TheVariants.{Ranges, List as Listed}
use Rattle.pmic_tables.specs.declared.kind.Kind.{Kind}

-- µV of the selector `first`, µV more for each next one, and the first and the last selector
abbrev pub range : ℕ → ℕ → ℕ → ℕ → LinearRange
range min step first last = record { min = min; min_sel = first; max_sel = last; step = step }

-- the values of one range
abbrev pub one_range : LinearRange → Table
one_range r = Ranges (r ∷ [])

-- the values of two ranges
abbrev pub two_ranges : LinearRange → LinearRange → Table
two_ranges r s = Ranges (r ∷ s ∷ [])

-- values in µV, the first at the selector 0
abbrev pub listed : List ℕ → Table
listed uvs = Listed uvs

-- a rail: its node, its supply, its values, where its selector stands, and its kind
pub record Line : Type 0 where
  pub node : List ℕ
  pub supply : List ℕ
  pub table : Table
  pub register : ℕ
  pub mask : ℕ
  pub kind : Kind

-- a line as it is written in a data sheet
abbrev pub line : List ℕ → List ℕ → Table → ℕ → ℕ → Kind → Line
line node supply table register mask kind =
    record { node = node; supply = supply; table = table; register = register; mask = mask; kind = kind }

-- a chip: its rails in order, its registers that aren't 0 after a reset, and the register of the
-- first eight suspend enable bits
pub record Sheet : Type 0 where
  pub lines : List Line
  pub resets : List (ℕ × ℕ)
  pub sleep : ℕ
