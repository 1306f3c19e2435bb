-- How a rail goes from one of its values to another, as the worker sees it.
use Rattle.std.specs.Prelude.{ℕ, ◌≡◌, ◌<◌, ◌≤◌, Bool, true, false, List, length, take, map}
use Rattle.chip_regs.specs.Registers.{IsImage}
use Rattle.reg_outside.specs.Bus.{Bus}
use Rattle.board.specs.declared.board.Board.{Board}
use Rattle.board.specs.declared.part.Part.{Part}
use Rattle.board.specs.declared.part.Part.TheVariants.{Selector}
use Rattle.board.specs.declared.rail.Rail.{Rail}
use Rattle.board.specs.Rail.{allowed, uv}
use Rattle.rail_law.specs.Law.{Law}
use Rattle.rail_law.specs.Moves.{Move, after_moves}
use Rattle.rail_law.specs.Way.{move_of}
use Rattle.rail_state.specs.Sight.{Look}
use Rattle.plain_board.proofs.ValuesTo.{values_to}
use Rattle.rail_ops.specs.Sight.{Hands}
use Rattle.rail_ops.specs.Taking.{Tells, updates_of}

-- the selector field of rail r has this number, and all else is as before
pub record PutsSelector (r number : ℕ) (before after : Hands) : Type 0 where
  pub board : after.board ≡ before.board
  pub rails : after.rails ≡ before.rails
  pub own : after.bits r Selector ≡ number
  pub others : (i : ℕ) (part : Part) → (i ≡ r → part ≡ Selector → ⊥) → after.bits i part ≡ before.bits i part
  pub books : (i : ℕ) → after.books i ≡ before.books i

-- registers of the board's chips, of which the worker sees its part, and in which the law holds
pub record SeesLawful (hands : Hands) (regs : List (List ℕ)) : Type 0 where
  pub image : IsImage regs
  pub chips : length regs ≡ hands.board.chips
  pub look : Look hands.board hands.rails hands.bits regs
  pub law : Law hands.board regs

-- the moves of rail r from one value to another
abbrev pub moves_between : Board → ℕ → Rail → ℕ → ℕ → List Move
moves_between board r rail target from = map (λ v. move_of board (r, v)) (values_to (allowed rail) target from)

-- the rail made so many of the moves to its target, and then the bus refused one or it was there
pub record WentTo (before after : Hands) (bus bus' : Bus) (made : ℕ) (refused : Bool) (r : ℕ) (rail : Rail) (target : ℕ) (regs : List (List ℕ)) : Type 0 where
  pub within : made ≤ length (moves_between before.board r rail target (uv rail regs))
  pub look : Look after.board after.rails after.bits (after_moves before.board regs (take made (moves_between before.board r rail target (uv rail regs))))
  pub tells : Tells (updates_of before.board (take made (moves_between before.board r rail target (uv rail regs)))) refused bus bus'
  pub all : refused ≡ false → made ≡ length (moves_between before.board r rail target (uv rail regs))
  pub more : refused ≡ true → made < length (moves_between before.board r rail target (uv rail regs))
