-- What holds before a history, after every single register write of it, and at its end.
use Rattle.std.specs.Prelude.{List, [], ◌∷◌, ℕ}
use Rattle.board.specs.declared.board.Board.{Board}
use Rattle.rail_law.specs.Law.{Law}
use Rattle.rail_law.specs.Moves.{Move, field_of_move, written}
use Rattle.rows.specs.declared.row.Row.{Row}
use Rattle.plain_board.specs.declared.plain.Plain.{Plain}
use Rattle.plain_board.specs.History.{moves_of, after}

-- a fact of the registers holds before these moves, and after each of them
abbrev pub Throughout : (List (List ℕ) → Type 0) → Board → List (List ℕ) → List Move → Type 0
Throughout P board regs [] = P regs
Throughout P board regs (move ∷ moves) = P regs × Throughout P board (written (field_of_move board move) regs move.bits) moves

-- the law holds before a history, after every single register write of it, and at its end
abbrev pub LawHolds : Board → Plain → List Row → Type 0
LawHolds board plain [] = Law board plain.regs
LawHolds board plain (row ∷ rows) = Throughout (Law board) board plain.regs (moves_of board plain row) × LawHolds board (after board plain row) rows
