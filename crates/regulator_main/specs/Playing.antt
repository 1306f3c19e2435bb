-- What the scripts of a session do, one after another, and what the wires of the lab are told of it.
use Rattle.std.specs.Prelude.{ℕ, true, false, ◌≡◌, ◌+◌, ◌≤◌, ◌<◌, List, [], ◌∷◌, ◌++◌, map, length}
use Rattle.std.specs.Option.{option_map}
use Rattle.reg_outside.specs.Count.{RoseBy}
use Rattle.board.specs.declared.board.Board.{Board}
use Rattle.rows.specs.declared.call.Call.{Call}
use Rattle.rows.specs.declared.row.Row.{Row}
use Rattle.plain_board.specs.Update.{update_of}
use Rattle.plain_board.specs.declared.plain.Plain.{Plain}
use Rattle.plain_board.specs.History.{IsLegal, Keeps, moved}
use Rattle.plain_board.specs.Law.{LawHolds}
use Rattle.plain_board.specs.Stops.{Refusals, is_planned, tries_of, are_in_step, strays}
use Rattle.regulator_main.specs.Wires.{Wires, OthersStay}

-- the call of a row, with its worker
abbrev pub turn_of : Row → ℕ × Call
turn_of row = (row.worker, row.call)

-- the calls of a script, each with its worker
abbrev pub turns_of : ℕ → List Call → List (ℕ × Call)
turns_of worker script = map (λ call. (worker, call)) script

-- the calls of the scripts one after another, each with its worker, numbered from `worker` on
abbrev pub turns : ℕ → List (List Call) → List (ℕ × Call)
turns worker [] = []
turns worker (script ∷ scripts) = turns_of worker script ++ turns (worker + 1) scripts

-- a history from this plain board that has these calls in order and keeps no writes
pub record IsHistoryOf (board : Board) (plain : Plain) (calls : List (ℕ × Call)) (rows : List Row) : Type 0 where
  pub legal : IsLegal board plain rows
  pub in_order : map turn_of rows ≡ calls
  pub keeps : Keeps false board plain rows
  -- the board is lawful at the start and after every single register write
  pub lawful : LawHolds board plain rows

-- what the wire of a worker was told of a history
pub record Tells (board : Board) (plain : Plain) (refusals : Refusals) (rows : List Row) (worker : ℕ) (before after : Wires) : Type 0 where
  -- it took the moves that the worker's rows made
  pub moves : after.lists worker ≡ option_map (λ _. map update_of (moved board plain worker rows)) (before.lists worker)
  -- none of them was planned to be refused
  pub in_step : are_in_step (is_planned refusals worker) 0 (tries_of board plain worker rows) ≡ true
  -- each stop that wasn't planned was counted under the worker's number
  pub strays : RoseBy (before.counts worker) (after.counts worker) (strays (is_planned refusals worker) 0 (tries_of board plain worker rows))

-- one worker ran its script
pub record PlaysWorker (board : Board) (plain : Plain) (refusals : Refusals) (worker : ℕ) (script : List Call) (rows : List Row) (before after : Wires) : Type 0 where
  pub history : IsHistoryOf board plain (turns_of worker script) rows
  pub tells : Tells board plain refusals rows worker before after
  pub others : OthersStay worker before after

-- all workers ran theirs, one after another
pub record PlaysAll (board : Board) (plain : Plain) (refusals : Refusals) (scripts : List (List Call)) (rows : List Row) (before after : Wires) : Type 0 where
  pub history : IsHistoryOf board plain (turns 1 scripts) rows
  pub tells : (worker : ℕ) → 1 ≤ worker → worker ≤ length scripts → Tells board plain refusals rows worker before after
  -- no other wire was used
  pub other_counts : (n : ℕ) → length scripts < n → after.counts n ≡ before.counts n
  pub other_lists : (n : ℕ) → length scripts < n → after.lists n ≡ before.lists n
  -- nor that of the load
  pub load_count : after.counts 0 ≡ before.counts 0
  pub load_list : after.lists 0 ≡ before.lists 0
