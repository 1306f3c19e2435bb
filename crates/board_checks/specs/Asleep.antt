-- What is asked of the values of a suspended board.
use Rattle.std.specs.Prelude.{ℕ, ◌≡◌, ◌<◌, Bool, true, false, ◌&&◌, nat_lt, List, [], ◌∷◌, map, flat_map, find, length, slice_get, Option, None, Some, unwrap_or, if◌then◌else◌}
use Rattle.std.specs.Int.{abs_diff}
use Rattle.std.specs.List.{list_any, range_with_len}
use Rattle.std.specs.Option.{option_map, option_map_or, option_and_then}
use Rattle.board_graph.specs.Graph.{AreCoupled}
use Rattle.board.specs.declared.board.Board.{Board}
use Rattle.board.specs.declared.sleep.Sleep.{Sleep}
use Rattle.board_checks.specs.declared.fault.CheckFault.{CheckFault}
use Rattle.board_checks.specs.declared.fault.CheckFault.TheVariants.{SuspendSpread}
use Rattle.board_checks.specs.Rails.{are_coupled, spread_at}

-- the value of a rail in a state of a suspended board, unless it is off there
abbrev pub asleep : Option Sleep → Option ℕ
asleep None = None
asleep (Some sleep) = if unwrap_or sleep.on true then sleep.uv else None

-- the value of a rail of the board in a state: 0 standby, 1 mem, 2 disk
abbrev pub asleep_at : Board → ℕ → ℕ → Option ℕ
asleep_at board state r = option_and_then (λ rail. option_and_then asleep (slice_get rail.limits.sleeps state)) (slice_get board.rails r)

-- two values are there, and further apart than this
abbrev pub are_apart : ℕ → Option ℕ → Option ℕ → Bool
are_apart spread first second = option_map_or (λ u. option_map_or (λ v. nat_lt spread (abs_diff u v)) second false) first false

-- the pairs of so many numbers, by the first and then by the second
abbrev pub pairs_of : ℕ → List (ℕ × ℕ)
pairs_of count = flat_map (λ a. map (λ b. (a, b)) (range_with_len 0 count)) (range_with_len 0 count)

-- in one of the states two coupled rails are too far apart
abbrev pub are_apart_asleep : Board → ℕ → ℕ → Bool
are_apart_asleep board a b =
    are_coupled board.graph a b && list_any (λ state. are_apart (spread_at board a) (asleep_at board state a) (asleep_at board state b)) (0 ∷ 1 ∷ 2 ∷ [])

-- what is wrong with the values of a suspended board
abbrev pub suspend_fault : Board → Option CheckFault
suspend_fault board = option_map (λ pair. SuspendSpread pair.0 pair.1) (find (λ pair. are_apart_asleep board pair.0 pair.1) (pairs_of (length board.rails)))

-- in one of the states two coupled rails stand further apart than their spread
pub record AreFarAsleep (board : Board) (a b : ℕ) : Type 0 where
  pub coupled : AreCoupled board.graph a b
  pub state : ℕ
  pub is_state : state < 3
  pub first : ℕ
  pub second : ℕ
  pub first_is : asleep_at board state a ≡ Some first
  pub second_is : asleep_at board state b ≡ Some second
  pub far : spread_at board a < abs_diff first second
