-- How a rail and those above it come up, from above.
use Rattle.std.specs.Prelude.{ℕ, zero, suc, ◌≡◌, ◌≢◌, ◌≤◌, Bool, true, List, map, take, reverse, length, AllPairs, Option, Some, None, slice_get, is_none, is_some}
use Rattle.reg_outside.specs.Bus.{Bus}
use Rattle.board_graph.specs.declared.graph.Graph.{Graph}
use Rattle.board_graph.specs.Graph.{supply_at}
use Rattle.board.specs.declared.board.Board.{Board}
use Rattle.rail_law.specs.Moves.{Move, after_moves}
use Rattle.plain_board.specs.declared.plain.Plain.{Plain}
use Rattle.plain_board.specs.Answer.{enable_delay}
use Rattle.plain_board.specs.Inv.{Inv}
use Rattle.plain_board.specs.Plan.{upward, switch}
use Rattle.plain_board.specs.Switched.{off_rails}
use Rattle.plain_board.specs.Untied.{HoldFields}
use Rattle.rail_ops.specs.Inside.Raised.{raised}
use Rattle.rail_ops.specs.Sight.{Hands, Shows}
use Rattle.rail_ops.specs.Taking.{Tells, updates_of}

-- so many steps up from there end at a rail without a supply
abbrev pub reaches_top : Graph → ℕ → Option ℕ → Bool
reaches_top graph zero r = is_none r
reaches_top graph (suc most) None = true
reaches_top graph (suc most) (Some r) = reaches_top graph most (supply_at graph r)

-- the way up from there, so many steps at the most, reaches the top and passes no rail twice
pub record LeadsUp (board : Board) (most : ℕ) (r : Option ℕ) : Type 0 where
  pub ends : reaches_top board.graph most r ≡ true
  pub apart : AllPairs (λ i j. i ≢ j) (upward board.graph most r)

-- the moves that switch on those of some rails that are off, given from below
abbrev pub rises : Board → List (List ℕ) → List ℕ → List Move
rises board regs rails = map (switch 1) (off_rails board regs (reverse rails))

-- a sound plain board that the worker sees
pub record IsSeen (hands : Hands) (plain : Plain) : Type 0 where
  pub inv : Inv hands.board plain
  pub hold : HoldFields hands.board plain.regs
  pub shows : Shows hands plain

-- the first so many of these moves were made, and then the bus refused one, or no more was tried
pub record WentUp (before after : Hands) (bus bus' : Bus) (made : ℕ) (stopped : Bool) (plain : Plain) (moves : List Move) : Type 0 where
  pub within : made ≤ length moves
  pub shows : Shows after (raised before.board plain (take made moves))
  pub tells : Tells (updates_of before.board (take made moves)) stopped bus bus'

-- they came up, all or up to one that the bus refused, and take so long
pub record CameUp (before after : Hands) (bus bus' : Bus) (made delay : ℕ) (refused : Option ℕ) (plain : Plain) (moves : List Move) : Type 0 where
  pub went : WentUp before after bus bus' made (is_some refused) plain moves
  pub all : refused ≡ None → made ≡ length moves
  pub next : (i : ℕ) → refused ≡ Some i → slice_get moves made ≡ Some (switch 1 i)
  pub takes : delay ≡ enable_delay before.board plain.regs (after_moves before.board plain.regs (take made moves))
