-- The counts of a rail, added up from its handles.
use Rattle.std.specs.Prelude.{ℕ, ◌+◌, ◌==◌, Bool, List, sum_by, if◌then◌else◌}
use Rattle.use_counts.specs.declared.handle_row.HandleRow.{HandleRow}

-- the enables of all handles
abbrev pub enables_of : List HandleRow → ℕ
enables_of rows = sum_by (λ row. row.enables) rows

-- what a handle draws: its load, while it has the rail enabled
abbrev pub drawn : HandleRow → ℕ
drawn row = if row.enables == 0 then 0 else row.load

-- what all handles draw
abbrev pub drawn_by : List HandleRow → ℕ
drawn_by rows = sum_by drawn rows

-- the use count: the enables, the hold, and the votes of the rails that it supplies
abbrev pub uses_of : List HandleRow → Bool → ℕ → ℕ
uses_of rows held votes = enables_of rows + (if held then 1 else 0) + votes
