-- What holds of the board of each tree that is refused for nothing.
use Rattle.std.specs.Prelude.{◌≡◌, List, None, All}
use Rattle.board.specs.declared.board.Board.{Board}
use Rattle.dts_tree.specs.Tree.{Node}
use Rattle.board_nodes.specs.Chips.{resets_of}
use Rattle.board_draft.specs.Faults.{first_fault}
use Rattle.board_draft.specs.Sketch.{IsBoardOf}
use Rattle.board_load.specs.Loading.{HasValueInside}
use Rattle.board_load.specs.Registers.{NameChips}

-- each of its rails with bounds has a value of its table within them
abbrev pub DraftsHaveValues : Type 0
DraftsHaveValues = (nodes : List Node) (board : Board) → first_fault nodes ≡ None → IsBoardOf nodes board → All HasValueInside board.rails

-- the registers that aren't 0 after a reset are of its chips
abbrev pub ResetsNameChips : Type 0
ResetsNameChips = (nodes : List Node) (board : Board) → IsBoardOf nodes board → NameChips board.chips (resets_of nodes)
