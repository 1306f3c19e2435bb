-- The names of rails, as the words of a script name them.
use Rattle.std.specs.Prelude.{ℕ, ◌≡◌, ◌&&◌, nat_le, Bool, List, length, slice_get, bytes_eq, Option, Some, None, option_map, if◌then◌else◌}
use Rattle.std.specs.List.{list_all}
use Rattle.std.specs.Map.{lookup}
use Rattle.arrayvec.specs.ArrayString.{ArrayString}
use Rattle.board.specs.declared.board.Board.{Board}
use Rattle.board.specs.declared.rail.Rail.{Rail}
use Rattle.board.specs.declared.rail_id.RailId.{RailId}

-- names, each with its rail
abbrev pub Names : Type 0
Names = List (ArrayString × RailId)

-- a byte that is printed, and no blank
abbrev pub is_printed : ℕ → Bool
is_printed byte = nat_le 0x21 byte && nat_le byte 0x7e

-- a word that a rail may have as its name: at most 64 bytes, each of them printed
abbrev pub is_name : List ℕ → Bool
is_name word = nat_le (length word) 64 && list_all is_printed word

-- the rail of the name with these bytes
abbrev pub rail_under : Names → List ℕ → Option RailId
rail_under names word = lookup (λ name. bytes_eq word name.bytes) names

-- the rail that a word names
abbrev pub rail_named : Names → List ℕ → Option RailId
rail_named names word = if is_name word then rail_under names word else None

-- each rail's name names it, and a word that names a rail is its name
pub record AreNamesOf (board : Board) (names : Names) : Type 0 where
  pub each : (at : ℕ) (rail : Rail) → slice_get board.rails at ≡ Some rail → option_map {T = RailId} (λ r. r.0) (rail_named names rail.name.bytes) ≡ Some at
  pub no_other : (word : List ℕ) (r : RailId) → rail_named names word ≡ Some r → option_map {T = Rail} (λ rail. rail.name.bytes) (slice_get board.rails r.0) ≡ Some word
