-- Facts that hold before some moves and after each of them.
use Rattle.std.proofs.Common.{◌≡◌, ℕ, zero, suc, List, [], ◌∷◌, ◌++◌, refl, take}
use Rattle.board.specs.declared.board.Board.{Board}
use Rattle.rail_law.specs.Moves.{Move, field_of_move, written, after_moves}
use Rattle.plain_board.specs.Law.{Throughout}

module _ (P : List (List ℕ) → Type 0) (board : Board) where
  -- such a fact holds before the moves
  pub Throughout-first : (regs : List (List ℕ)) (moves : List Move) → Throughout P board regs moves → P regs
  Throughout-first regs [] all = all
  Throughout-first regs (move ∷ moves) all = all.0

  -- it holds throughout the first so many
  pub Throughout-take : (regs : List (List ℕ)) (moves : List Move) (k : ℕ) → Throughout P board regs moves → Throughout P board regs (take k moves)
  Throughout-take regs moves zero all = Throughout-first regs moves all
  Throughout-take regs [] (suc k) all = all
  Throughout-take regs (move ∷ moves) (suc k) all = (all.0, Throughout-take (written (field_of_move board move) regs move.bits) moves k all.1)

  -- and after them
  pub Throughout-after : (regs : List (List ℕ)) (moves : List Move) → Throughout P board regs moves → P (after_moves board regs moves)
  Throughout-after regs [] all = all
  Throughout-after regs (move ∷ moves) all = Throughout-after (written (field_of_move board move) regs move.bits) moves all.1

  -- and throughout more moves, if it holds throughout these after those
  pub Throughout-append : (regs : List (List ℕ)) (moves more : List Move) → Throughout P board regs moves → Throughout P board (after_moves board regs moves) more
      → Throughout P board regs (moves ++ more)
  Throughout-append regs [] more all rest = rest
  Throughout-append regs (move ∷ moves) more all rest = (all.0, Throughout-append (written (field_of_move board move) regs move.bits) moves more all.1 rest)

-- the registers after some moves and more
pub after_moves-append : (board : Board) (regs : List (List ℕ)) (moves more : List Move) → after_moves board regs (moves ++ more) ≡ after_moves board (after_moves board regs moves) more
after_moves-append board regs [] more = refl
after_moves-append board regs (move ∷ moves) more = after_moves-append board (written (field_of_move board move) regs move.bits) moves more

-- what follows from such a fact holds where it does
pub Throughout-weaker : (P Q : List (List ℕ) → Type 0) (board : Board) (regs : List (List ℕ)) (moves : List Move) → ((r : List (List ℕ)) → P r → Q r)
    → Throughout P board regs moves → Throughout Q board regs moves
Throughout-weaker P Q board regs [] weaker all = weaker regs all
Throughout-weaker P Q board regs (move ∷ moves) weaker all =
    (weaker regs all.0, Throughout-weaker P Q board (written (field_of_move board move) regs move.bits) moves weaker all.1)
