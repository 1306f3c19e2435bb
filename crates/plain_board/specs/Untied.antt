-- Boards on which no rail's value binds another's.
use Rattle.std.specs.Prelude.{ℕ, ◌≡◌, ◌<◌, false, List, Some, slice_get}
use Rattle.chip_regs.specs.declared.field.Field.{Field}
use Rattle.chip_regs.specs.Registers.{IsImage}
use Rattle.chip_regs.specs.Width.{chip_registers}
use Rattle.board_graph.specs.Graph.{AreCoupled}
use Rattle.board_graph.specs.Sets.{IsLinked}
use Rattle.board.specs.declared.board.Board.{Board}
use Rattle.board.specs.declared.part.Part.{Part}
use Rattle.board.specs.declared.rail.Rail.{Rail}
use Rattle.board.specs.Fields.{field_at}
use Rattle.board.specs.Rail.{counts_loads}
use Rattle.rows.specs.declared.call.Call.{Call}
use Rattle.rows.specs.declared.call.Call.TheVariants.{Open, Close, Enable, Disable, Set, Get, IsOn, ReleaseBoot}

-- no rail is coupled with another, and none is linked to its supply
pub record IsUntied (board : Board) : Type 0 where
  pub uncoupled : (i j : ℕ) → ¬ AreCoupled board.graph i j
  pub unlinked : (i : ℕ) → ¬ IsLinked board.graph i

-- the calls that sessions make today
abbrev pub IsBuiltCall : Call → Type 0
IsBuiltCall (Open handle rail exclusive) = Unit {0}
IsBuiltCall (Set handle lo hi) = Unit {0}
IsBuiltCall (Get handle) = Unit {0}
IsBuiltCall _ = ⊥

-- loads choose no rail's mode
abbrev pub CountsNoLoads : Board → Type 0
CountsNoLoads board = (i : ℕ) (rail : Rail) → slice_get board.rails i ≡ Some rail → counts_loads rail ≡ false

-- the calls on handles, and the one that ends the holds of the start
abbrev pub IsHandleCall : Call → Type 0
IsHandleCall (Open handle rail exclusive) = Unit {0}
IsHandleCall (Close handle) = Unit {0}
IsHandleCall (Enable handle) = Unit {0}
IsHandleCall (Disable handle) = Unit {0}
IsHandleCall (Set handle lo hi) = Unit {0}
IsHandleCall (Get handle) = Unit {0}
IsHandleCall (IsOn handle) = Unit {0}
IsHandleCall ReleaseBoot = Unit {0}
IsHandleCall _ = ⊥

-- the registers are those of whole chips, and each field of the board's rails lies in one of a chip's registers
pub record HoldFields (board : Board) (regs : List (List ℕ)) : Type 0 where
  pub image : IsImage regs
  pub places : (r : ℕ) (part : Part) (field : Field) → field_at board r part ≡ Some field → field.reg < chip_registers
