-- The values of a list, written out with their selectors.
use Rattle.std.specs.Prelude.{ℕ, List, Option, slice_get}
use Rattle.std.specs.List.{enumerate_from}
pub use Rattle.value_list.specs.Picks.{lesser_pair, least_pair, greater_pair, greatest_pair, pick_high, pick_low}

-- the value of a selector: the entry at its place
abbrev pub value_of : List ℕ → ℕ → Option ℕ
value_of xs sel = slice_get xs sel

-- the pairs (selector, µV), selector by selector from 0 on
abbrev pub values : List ℕ → List (ℕ × ℕ)
values xs = enumerate_from 0 xs
