-- What loading gives: the board with the values of the rails that can't change, the writes, and the plain board after them.
use Rattle.std.specs.Prelude.{ℕ, ◌≢◌, false, List, [], map, slice_index, Option, IfSome}
use Rattle.std.specs.List.{enumerate_from}
use Rattle.std.specs.Option.{option_map}
use Rattle.board.specs.declared.board.Board.{Board}
use Rattle.board.specs.declared.rail.Rail.{Rail}
use Rattle.rail_law.specs.Moves.{after_moves, writes_of}
use Rattle.plain_board.specs.declared.plain.Plain.{Plain}
use Rattle.board_load.specs.declared.loaded.Loaded.{Loaded}
use Rattle.board_load.specs.Start.{targets, is_asked_on, values_inside}
use Rattle.board_load.specs.Writes.{loading_moves}

-- the board with these values, rail by rail, as those that rails have which can't change
abbrev pub board_at : Board → List ℕ → Board
board_at board values = record board {
  rails = map (λ rail. record rail.1 { kept_uv = slice_index values rail.0 }) (enumerate_from 0 board.rails);
}

-- the plain board once the rails have these values: no handle is open, and each rail is held that is to be on
abbrev pub plain_at : Board → List (List ℕ) → List ℕ → Plain
plain_at board regs values = record {
  regs = after_moves board regs (loading_moves board regs values);
  handles = [];
  holds = map (is_asked_on regs) board.rails;
  suspended = false;
  events = map (λ _. []) board.rails;
}

abbrev pub loaded_at : Board → List (List ℕ) → List ℕ → Loaded
loaded_at board regs values = record {
  board = board_at board values;
  writes = writes_of board (loading_moves board regs values);
  plain = plain_at board regs values;
}

-- the loaded board, where there are values for its rails
abbrev pub load : Board → List (List ℕ) → Option Loaded
load board regs = option_map (loaded_at board regs) (targets board regs)

-- a rail with bounds has a value of its table within them
abbrev pub HasValueInside : Rail → Type 0
HasValueInside rail = IfSome rail.limits.bounds (λ bounds. values_inside rail bounds ≢ [])
