-- What holds of every list.
use Rattle.std.specs.Prelude.{◌≡◌, ℕ, ◌↔◌, List, Some}
use Rattle.std.specs.List.{Contains}
use Rattle.value_list.specs.Laws as pairs
pub use Rattle.value_list.specs.Laws.{IsHighPick, IsLowPick}
use Rattle.voltage_table.specs.Values.{value_of, values}

-- the pairs written out are those of the selectors with a value
abbrev pub ListsValues : List ℕ → Type 0
ListsValues xs = (sel uv : ℕ) → Contains (values xs) (sel, uv) ↔ (value_of xs sel ≡ Some uv)

-- their selectors rise
abbrev pub SelectorsRise : List ℕ → Type 0
SelectorsRise xs = pairs.SelectorsRise (values xs)

-- each selector is a `u16`, and each value a `u32`
abbrev pub IsBounded : List ℕ → Type 0
IsBounded xs = pairs.IsBounded (values xs)

-- a pick is the least not below the value asked for
abbrev pub PicksHigh : List ℕ → Type 0
PicksHigh xs = pairs.PicksHigh (values xs)

-- a pick is the greatest not above the value asked for
abbrev pub PicksLow : List ℕ → Type 0
PicksLow xs = pairs.PicksLow (values xs)
