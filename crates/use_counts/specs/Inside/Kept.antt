-- What is kept beside the handles of a rail.
use Rattle.std.specs.Prelude.{◌≡◌, ℕ, ◌≤◌, All, List, length}
use Rattle.use_counts.specs.declared.handle_row.HandleRow.{HandleRow}
use Rattle.use_counts.specs.Counts.{drawn_by, enables_of}

-- the sums are those of the rows; rows and their numbers are so few and small that the sums fit
pub record Kept (rows : List HandleRow) (enables drawn : ℕ) : Type 0 where
  pub enables_is : enables ≡ enables_of rows
  pub drawn_is : drawn ≡ drawn_by rows
  pub few : length rows ≤ 4294967295
  pub small : All (λ row. (row.enables ≤ 4294967295) × (row.load ≤ 4294967295)) rows
