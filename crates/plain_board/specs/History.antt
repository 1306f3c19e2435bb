-- Lists of rows that may have happened.
use Rattle.std.specs.Prelude.{ℕ, ◌≡◌, ◌+◌, ◌<◌, ◌==◌, ◌⊎◌, nat_lt, Bool, true, false, List, [], ◌∷◌, ◌++◌, take, length, count_by, filter, All, Option, Some, None, if◌then◌else◌}
use Rattle.board.specs.declared.board.Board.{Board}
use Rattle.board.specs.declared.write.Write.{Write}
use Rattle.rail_law.specs.Moves.{Move, writes_of}
use Rattle.rows.specs.declared.answer.Answer.{Answer}
use Rattle.rows.specs.declared.answer.Answer.TheVariants.{Fault}
use Rattle.rows.specs.declared.row.Row.{Row}
use Rattle.rows.specs.Row.{NamesRail}
use Rattle.plain_board.specs.declared.plain.Plain.{Plain}
use Rattle.plain_board.specs.Answer.{answer, plan}

-- how many moves an answer says were made before one was refused
abbrev pub stop_of : Answer → Option ℕ
stop_of (Fault chip reg applied now) = Some applied
stop_of _ = None

-- a call that was stopped was stopped before its plan was done
abbrev pub IsWithinPlan : Option ℕ → List Move → Type 0
IsWithinPlan None moves = Unit {0}
IsWithinPlan (Some made) moves = made < length moves

-- the moves that were made
abbrev pub made_of : Option ℕ → List Move → List Move
made_of None moves = moves
made_of (Some made) moves = take made moves

-- the moves that a row made, on the plain board before it
abbrev pub moves_of : Board → Plain → Row → List Move
moves_of board plain row = made_of (stop_of row.answer) (plan board plain row.worker row.call)

-- the plain board after a row, and as it was after one that stopped where its plan has no move
abbrev pub after_stop : Board → Plain → Row → Option ℕ → Plain
after_stop board plain row None = (answer board plain row.worker row.call None).1
after_stop board plain row (Some made) =
    if nat_lt made (length (plan board plain row.worker row.call))
    then (answer board plain row.worker row.call (Some made)).1
    else plain

abbrev pub after : Board → Plain → Row → Plain
after board plain row = after_stop board plain row (stop_of row.answer)

-- the plain board after these rows
abbrev pub replay : Board → Plain → List Row → Plain
replay board plain [] = plain
replay board plain (row ∷ rows) = replay board (after board plain row) rows

-- the rows of a worker
abbrev pub rows_of : ℕ → List Row → List Row
rows_of worker rows = filter (λ row. row.worker == worker) rows

-- A row that may come next on this plain board, after the rows before it: its answer is the one
-- that the plain board gives, and its writes are those of the moves that it made, or aren't kept.
pub record IsNext (board : Board) (plain : Plain) (before : List Row) (row : Row) : Type 0 where
  pub rail : NamesRail board row.call
  pub stop : IsWithinPlan (stop_of row.answer) (plan board plain row.worker row.call)
  pub answered : row.answer ≡ (answer board plain row.worker row.call (stop_of row.answer)).0
  pub line : row.line ≡ length (rows_of row.worker before) + 1
  pub writes : (row.writes ≡ []) ⊎ (row.writes ≡ writes_of board (moves_of board plain row))

-- each row may come next after those before it
abbrev pub legal_after : Board → Plain → List Row → List Row → Type 0
legal_after board plain before [] = Unit {0}
legal_after board plain before (row ∷ rows) =
    IsNext board plain before row × legal_after board (after board plain row) (before ++ row ∷ []) rows

-- the rows are a history from this plain board on
abbrev pub IsLegal : Board → Plain → List Row → Type 0
IsLegal board plain rows = legal_after board plain [] rows

-- no row has kept its writes
abbrev pub KeepsNone : List Row → Type 0
KeepsNone rows = All (λ row. row.writes ≡ []) rows

-- each row has kept the writes of the moves that it made
abbrev pub KeepsEach : Board → Plain → List Row → Type 0
KeepsEach board plain [] = Unit {0}
KeepsEach board plain (row ∷ rows) = (row.writes ≡ writes_of board (moves_of board plain row)) × KeepsEach board (after board plain row) rows

-- whether the rows keep their writes: each does, or none
abbrev pub Keeps : Bool → Board → Plain → List Row → Type 0
Keeps true board plain rows = KeepsEach board plain rows
Keeps false board plain rows = KeepsNone rows

-- the register writes of the moves that a worker's rows made, whether or not the rows have them
abbrev pub moved : Board → Plain → ℕ → List Row → List Write
moved board plain worker [] = []
moved board plain worker (row ∷ rows) =
    (if row.worker == worker then writes_of board (moves_of board plain row) else [])
    ++ moved board (after board plain row) worker rows

-- a row was stopped by the bus
abbrev pub is_fault : Answer → Bool
is_fault (Fault chip reg applied now) = true
is_fault _ = false

-- how many rows of a worker were stopped by the bus
abbrev pub faults_of : ℕ → List Row → ℕ
faults_of worker rows = count_by (λ row. is_fault row.answer) (rows_of worker rows)
