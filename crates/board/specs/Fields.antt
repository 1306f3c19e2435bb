-- The rails of a board by their numbers, and their register fields.
use Rattle.std.specs.Prelude.{ℕ, ◌≡◌, ◌≤◌, true, IfSome, List, [], Option, None, Some, map, slice_get, All, Contains}
use Rattle.std.specs.Option.{option_and_then}
use Rattle.chip_regs.specs.declared.field.Field.{Field}
use Rattle.board.specs.declared.board.Board.{Board}
use Rattle.board.specs.declared.part.Part.{Part}
use Rattle.board.specs.declared.rail.Rail.{Rail}
use Rattle.board.specs.Table.{uv_of}
use Rattle.board.specs.Rail.{choices, part_field}

-- the field of a part of a rail, where the board has it
abbrev pub field_at : Board → ℕ → Part → Option Field
field_at board r part = option_and_then (part_field part) (slice_get board.rails r)

-- the pairs (selector, µV) among which a rail moves, where there is one
abbrev pub choices_of : Option Rail → List (ℕ × ℕ)
choices_of None = []
choices_of (Some rail) = choices rail

-- the pairs (selector, µV) among which a rail of the board moves
abbrev pub choices_at : Board → ℕ → List (ℕ × ℕ)
choices_at board r = choices_of (slice_get board.rails r)

-- the values that a rail of the board may stand at, in µV
abbrev pub allowed_at : Board → ℕ → List ℕ
allowed_at board r = map (λ pair. pair.1) (choices_at board r)

-- the selector has this value in the table of a rail that can change; of another rail it tells nothing
abbrev pub HasValueAt : Board → ℕ → ℕ → ℕ → Type 0
HasValueAt board r sel uv = IfSome (slice_get board.rails r) (λ rail. rail.changeable ≡ true → uv_of rail.desc.table sel ≡ Some uv)

-- the least value of a list that isn't below u
pub record IsLeastAbove (values : List ℕ) (u least : ℕ) : Type 0 where
  pub among : Contains values least
  pub not_below : u ≤ least
  pub no_lesser : All (λ v. u ≤ v → least ≤ v) values

-- the greatest value of a list that isn't above u
pub record IsGreatestBelow (values : List ℕ) (u greatest : ℕ) : Type 0 where
  pub among : Contains values greatest
  pub not_above : greatest ≤ u
  pub no_greater : All (λ v. v ≤ u → v ≤ greatest) values
