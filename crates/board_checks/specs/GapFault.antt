-- What is asked of the gaps of a board.
use Rattle.std.specs.Prelude.{ℕ, ◌≡◌, ◌<◌, Bool, true, not, ◌==◌, ◌&&◌, nat_lt, find, slice_get, Option, Some}
use Rattle.std.specs.Option.{option_map, option_or, option_map_or}
use Rattle.board_graph.specs.Sets.{rails_of}
use Rattle.board.specs.declared.board.Board.{Board}
use Rattle.board.specs.declared.rail.Rail.{Rail}
use Rattle.board.specs.Gaps.{HasNarrowGaps}
use Rattle.board.specs.Rail.{allowed}
use Rattle.board_checks.specs.declared.fault.CheckFault.{CheckFault}
use Rattle.board_checks.specs.declared.fault.CheckFault.TheVariants.{GapOverSpread, GapOverStep}
use Rattle.board_checks.specs.Rails.{tests_rail, is_coupled, spread_at}
use Rattle.board_checks.specs.Gaps.{widest_gap, IsWidestGap}

-- the widest gap of a rail between neighbouring values that it may stand at
abbrev pub gap_at : Board → ℕ → ℕ
gap_at board r = option_map_or (λ rail. widest_gap (allowed rail)) (slice_get board.rails r) 0

-- the greatest step of a rail
abbrev pub step_at : Board → ℕ → ℕ
step_at board r = option_map_or (λ rail. rail.limits.max_step) (slice_get board.rails r) 0

-- a changeable rail is coupled, and has a gap above the spread
abbrev pub is_over_spread : Board → ℕ → Bool
is_over_spread board r = tests_rail (λ rail. rail.changeable) board r && is_coupled board.graph r && nat_lt (spread_at board r) (gap_at board r)

-- a changeable rail has a greatest step, and a gap above it
abbrev pub is_over_step : Board → ℕ → Bool
is_over_step board r = tests_rail (λ rail. rail.changeable) board r && not (step_at board r == 0) && nat_lt (step_at board r) (gap_at board r)

-- the first rail with a gap above the spread
abbrev pub spread_fault : Board → Option CheckFault
spread_fault board = option_map (λ r. GapOverSpread r (gap_at board r) (spread_at board r)) (find (is_over_spread board) (rails_of board.graph))

-- the first rail with a gap above its greatest step
abbrev pub step_fault : Board → Option CheckFault
step_fault board = option_map (λ r. GapOverStep r (gap_at board r) (step_at board r)) (find (is_over_step board) (rails_of board.graph))

-- what is wrong with the gaps of a board
abbrev pub gap_fault : Board → Option CheckFault
gap_fault board = option_or (spread_fault board) (step_fault board)

-- no gap of a changeable rail is wider than what binds it
abbrev pub AreNarrow : Board → Type 0
AreNarrow board = (r : ℕ) (rail : Rail) → slice_get board.rails r ≡ Some rail → rail.changeable ≡ true → HasNarrowGaps board r rail

-- the rail is changeable, and its widest gap is this one and above a bound
pub record HasWideGap (board : Board) (r gap bound : ℕ) : Type 0 where
  pub rail : Rail
  pub is_at : slice_get board.rails r ≡ Some rail
  pub changeable : rail.changeable ≡ true
  pub widest : IsWidestGap (allowed rail) gap
  pub above : bound < gap
