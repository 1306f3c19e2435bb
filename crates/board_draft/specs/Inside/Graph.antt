-- Links between rails, by what is asked of each.
use Rattle.std.specs.Prelude.{ℕ, Bool, false, not, ◌==◌, ◌&&◌, List, Option, slice_get}
use Rattle.std.specs.Option.{option_map_or, option_and_then}
use Rattle.board.specs.declared.constraints.Constraints.{Constraints}
use Rattle.board.specs.Valid.{is_span}

-- the bounds of a rail leave it room
abbrev pub room_at : List Constraints → ℕ → Bool
room_at limits r = option_map_or (λ (c : Constraints). is_span c.bounds) (slice_get limits r) false

-- there is a dropout, and a supply with room
abbrev pub is_held_by : List Constraints → Option (Option ℕ) → ℕ → Bool
is_held_by limits supply dropout = not (dropout == 0) && option_map_or (room_at limits) (option_and_then (λ s. s) supply) false
