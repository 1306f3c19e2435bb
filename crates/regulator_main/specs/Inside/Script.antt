-- What a worker's script does, run from its first line to its last on one wire.
use Rattle.std.specs.Prelude.{ℕ, true, ◌≡◌, ◌+◌, List, [], ◌∷◌, map, All, Option, IfSome}
use Rattle.reg_outside.specs.Count.{RoseBy}
use Rattle.reg_outside.specs.Plan.{Plan, refuses, HasSmallNumbers}
use Rattle.reg_outside.specs.Told.{with_more}
use Rattle.board.specs.declared.board.Board.{Board}
use Rattle.rows.specs.declared.call.Call.{Call}
use Rattle.rows.specs.declared.row.Row.{Row}
use Rattle.rows.specs.Row.{NamesRail, HasRails}
use Rattle.reg_outside.specs.Bus.{Updates, tried_more}
use Rattle.plain_board.specs.Update.{update_of}
use Rattle.plain_board.specs.declared.plain.Plain.{Plain}
use Rattle.plain_board.specs.History.{moved, faults_of}
use Rattle.plain_board.specs.Stops.{Tries, attempts, are_in_step}
use Rattle.regulator_main.specs.Playing.{IsHistoryOf, turns_of}

-- the rows are a history with the calls of the script, and the worker's wire took their moves and counted each of their faults
pub record PlaysScript (board : Board) (plain : Plain) (worker : ℕ) (script : List Call) (rows : List Row) (told told' : Option Updates) (count count' : ℕ) : Type 0 where
  pub history : IsHistoryOf board plain (turns_of worker script) rows
  pub names : All (λ row. NamesRail board row.call) rows
  pub rails : All (λ row. HasRails board row.answer) rows
  pub moves : told' ≡ with_more told (map update_of (moved board plain worker rows))
  pub faults : RoseBy count count' (faults_of worker rows)

-- how many updates were tried
abbrev pub all_attempts : List Tries → ℕ
all_attempts [] = 0
all_attempts (tries ∷ rest) = attempts tries + all_attempts rest

-- the plan of a wire counts all that was tried on it, and no move that was made was planned to be refused
pub record StaysInStep (tries : List Tries) (plan plan' : Option Plan) : Type 0 where
  pub counted : plan' ≡ tried_more (all_attempts tries) plan
  pub in_step : IfSome plan (λ plan. HasSmallNumbers plan → are_in_step (refuses plan) plan.tried tries ≡ true)
