-- What makes a list of values a table.
use Rattle.std.specs.Prelude.{ℕ, ◌≤◌, ◌<◌, List, length}

-- one value at the least, at most n of them, and no more than there are selectors
pub record IsSound (n : ℕ) (xs : List ℕ) : Type 0 where
  pub some : 0 < length xs
  pub few : length xs ≤ n
  pub selectable : length xs ≤ 65536
