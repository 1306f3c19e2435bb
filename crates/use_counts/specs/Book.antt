-- What is kept of a rail beside its registers.
use Rattle.std.specs.Prelude.{ℕ, Bool, List}
use Rattle.board.specs.declared.event.Event.{Event}
use Rattle.use_counts.specs.declared.handle_row.HandleRow.{HandleRow}

-- the handles of a rail in the order of opening, its hold, the votes of the rails that it supplies, its events, and whether the board is suspended
pub record Book : Type 0 where
  pub rows : List HandleRow
  pub held : Bool
  pub votes : ℕ
  pub events : List Event
  pub suspended : Bool
