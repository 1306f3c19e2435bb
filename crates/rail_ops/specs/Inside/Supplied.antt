-- A rail that may be switched on.
use Rattle.std.specs.Prelude.{ℕ, ◌≡◌, ◌+◌, ◌<◌, ◌^◌, Contains, Some}
use Rattle.chip_regs.specs.declared.field.Field.{Field}
use Rattle.chip_regs.specs.Width.{chip_registers}
use Rattle.board_graph.specs.Graph.{supply_at}
use Rattle.board.specs.declared.board.Board.{Board}
use Rattle.board.specs.declared.part.Part.{Part}
use Rattle.board.specs.declared.part.Part.TheVariants.{Enable as EnableBit}
use Rattle.board.specs.Fields.{field_at}
use Rattle.rail_ops.specs.Sight.{Hands}

-- each field of the board's rails lies in a chip's registers
abbrev pub HavePlaces : Board → Type 0
HavePlaces board = (r : ℕ) (part : Part) (field : Field) → field_at board r part ≡ Some field → field.reg < chip_registers

-- the supply is held, is seen to be on, and can have a vote more
pub record IsUpheld (hands : Hands) (s : ℕ) : Type 0 where
  pub held : Contains hands.rails s
  pub on : hands.bits s EnableBit ≡ 1
  pub room : (hands.books s).votes + 1 < 2 ^ 32

-- the supply of rail r, where it has one, can uphold it
abbrev pub HasUpheldSupply : Hands → ℕ → Type 0
HasUpheldSupply hands r = (s : ℕ) → supply_at hands.board.graph r ≡ Some s → IsUpheld hands s
