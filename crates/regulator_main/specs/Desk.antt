-- What the call of a worker does to the plain board and to the worker's wire.
use Rattle.std.specs.Prelude.{ℕ, ◌≡◌, Bool, true, false, map, length, List, Option}
use Rattle.reg_outside.specs.Count.{Rose}
use Rattle.reg_outside.specs.Told.{with_more}
use Rattle.arrayvec.specs.ArrayString.{ArrayString}
use Rattle.board.specs.declared.board.Board.{Board}
use Rattle.board.specs.declared.rail.Rail.{Rail}
use Rattle.board.specs.Rail.{uv}
use Rattle.rail_law.specs.Moves.{Move, writes_of}
use Rattle.rows.specs.declared.answer.Answer.{Answer}
use Rattle.rows.specs.declared.call.Call.{Call}
use Rattle.rows.specs.declared.call.Call.TheVariants.{Set}
use Rattle.rows.specs.Row.{HasRails}
use Rattle.reg_outside.specs.Bus.{Updates}
use Rattle.plain_board.specs.Update.{update_of}
use Rattle.plain_board.specs.declared.plain.Plain.{Plain}
use Rattle.plain_board.specs.Answer.{answer, plan, settled}
use Rattle.plain_board.specs.History.{stop_of, IsWithinPlan, made_of, is_fault}
use Rattle.plain_board.specs.Stops.{Tries}
use Rattle.regulator_main.specs.Inside.Way.{moves_to}

-- a fault was counted, or none was
abbrev pub Counts : Bool → ℕ → ℕ → Type 0
Counts true count count' = Rose count count'
Counts false count count' = count' ≡ count

-- a call came to its end or to its stop within these moves, the wire took those that were made, and
-- it counted a fault exactly where the answer is one
pub record Took (board : Board) (moves : List Move) (said : Answer) (told told' : Option Updates) (count count' : ℕ) : Type 0 where
  pub within : IsWithinPlan (stop_of said) moves
  pub rails : HasRails board said
  pub updates : told' ≡ with_more told (map update_of (writes_of board (made_of (stop_of said) moves)))
  pub faults : Counts (is_fault said) count count'

-- what a call with these moves tried, by its answer: those that it made and, where it was stopped, the next one
abbrev pub tries_for : List Move → Answer → Tries
tries_for moves said = record { made = length (made_of (stop_of said) moves); stopped = is_fault said }

-- what a set does once its target is known: it is answered as on the plain board, and the wire took its moves
pub record Moves (board : Board) (plain plain' : Plain) (worker : ℕ) (handle : ArrayString) (request : ℕ × ℕ) (rail : Rail) (target : ℕ) (said : Answer) (told told' : Option Updates) (count count' : ℕ) : Type 0 where
  pub answered : settled board plain worker (Set handle request.0 request.1) (moves_to (record { 0 = 0 }) rail (uv rail plain.regs) target) (stop_of said) ≡ (said, plain')
  pub took : Took board (moves_to (record { 0 = 0 }) rail (uv rail plain.regs) target) said told told' count count'

-- the call is answered as the plain board answers it, and the wire took its moves
pub record Performs (board : Board) (plain plain' : Plain) (worker : ℕ) (call : Call) (said : Answer) (told told' : Option Updates) (count count' : ℕ) : Type 0 where
  pub answered : answer board plain worker call (stop_of said) ≡ (said, plain')
  pub took : Took board (plan board plain worker call) said told told' count count'
