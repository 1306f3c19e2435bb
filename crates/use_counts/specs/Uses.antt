-- What is seen of the counts of a rail, and of the names that a worker has open.
use Rattle.std.specs.Prelude.{ℕ, ◌==◌, ◌&&◌, Bool, List, Option, bytes_eq}
use Rattle.std.specs.Map.{lookup}
use Rattle.use_counts.specs.declared.handle_row.HandleRow.{HandleRow}

-- the handles of a rail, its hold, and the votes of the rails that it supplies
pub record Uses : Type 0 where
  pub rows : List HandleRow
  pub held : Bool
  pub votes : ℕ

-- it is the row of the worker's handle of this name
abbrev pub is_row_of : ℕ → List ℕ → HandleRow → Bool
is_row_of worker name row = row.worker == worker && bytes_eq row.handle.bytes name

-- the rail of an open name
abbrev pub rail_named : List (List ℕ × ℕ) → List ℕ → Option ℕ
rail_named names name = lookup (bytes_eq name) names
