-- Gaps between the values that a rail may stand at, and what bounds them.
use Rattle.std.specs.Prelude.{ℕ, ◌≡◌, ◌≢◌, ◌+◌, ◌<◌, ◌≤◌, ◌⊎◌, List, slice_get, Some, All, Contains}
use Rattle.board_graph.specs.Graph.{AreCoupled}
use Rattle.board.specs.declared.board.Board.{Board}
use Rattle.board.specs.declared.rail.Rail.{Rail}
use Rattle.board.specs.Rail.{allowed}

-- two values of a list, the first one less than the second, with none between them
pub record AreNeighbours (values : List ℕ) (low high : ℕ) : Type 0 where
  pub has_low : Contains values low
  pub has_high : Contains values high
  pub rising : low < high
  pub none_between : All (λ v. (v ≤ low) ⊎ (high ≤ v)) values

-- the rail is coupled with another one, and this is how far the two may differ
pub record IsSpreadOf (board : Board) (r spread : ℕ) : Type 0 where
  pub other : ℕ
  pub group : ℕ
  pub coupled : AreCoupled board.graph r other
  pub in_group : slice_get board.graph.group r ≡ Some group
  pub spread_is : slice_get board.spread group ≡ Some spread

-- no gap of the rail is wider than its greatest step, or than a spread that binds it
pub record HasNarrowGaps (board : Board) (r : ℕ) (rail : Rail) : Type 0 where
  pub steps : rail.limits.max_step ≢ 0 → (low high : ℕ) → AreNeighbours (allowed rail) low high → high ≤ low + rail.limits.max_step
  pub spreads : (spread : ℕ) → IsSpreadOf board r spread → (low high : ℕ) → AreNeighbours (allowed rail) low high → high ≤ low + spread
