-- What holds of every table, in words that do not go through its ranges.
use Rattle.std.specs.Prelude.{◌≡◌, ℕ, ◌↔◌, List, Some}
use Rattle.std.specs.List.{Contains}
use Rattle.value_list.specs.Laws as pairs
pub use Rattle.value_list.specs.Laws.{IsHighPick, IsLowPick}
use Rattle.linear_range.specs.declared.linear_range.LinearRange.{LinearRange}
use Rattle.linear_range.specs.Values.{value_of, values}

-- the pairs written out are those of the selectors with a value
abbrev pub ListsValues : List LinearRange → Type 0
ListsValues rs = (sel uv : ℕ) → Contains (values rs) (sel, uv) ↔ (value_of rs sel ≡ Some uv)

-- their selectors rise
abbrev pub SelectorsRise : List LinearRange → Type 0
SelectorsRise rs = pairs.SelectorsRise (values rs)

-- each selector is a `u16`, and each value a `u32`
abbrev pub IsBounded : List LinearRange → Type 0
IsBounded rs = pairs.IsBounded (values rs)

-- a pick is the least not below the value asked for
abbrev pub PicksHigh : List LinearRange → Type 0
PicksHigh rs = pairs.PicksHigh (values rs)

-- a pick is the greatest not above the value asked for
abbrev pub PicksLow : List LinearRange → Type 0
PicksLow rs = pairs.PicksLow (values rs)
