-- How far a session was read behind its board.
use Rattle.std.specs.Prelude.{ℕ, ◌≡◌, ◌+◌, ◌<◌, ◌≤◌, Bool, true, false, List, [], ◌∷◌, ◌++◌, map, flat_map, length, codes, All}
use Rattle.rows.specs.declared.call.Call.{Call}
use Rattle.session.specs.declared.progress.Progress.{Progress}
use Rattle.session.specs.declared.progress.Stage.{Stage}
use Rattle.session.specs.declared.progress.Stage.TheVariants.{Setup as BeforeWorkers, Worker, Between, Done}
use Rattle.session.specs.Forms.{most_workers, most_lines}
use Rattle.session.specs.Frame.{BoardPart, Demo, Text, Frame, IsBoardPart, IsSetup, board_lines, setup_text, worker_lines}
use Rattle.session.specs.Script.{IsScript, call_line}

abbrev pub is_demo : BoardPart → Bool
is_demo Demo = true
is_demo (Text lines) = false

-- a worker on this board may have this script: on the built-in board any, on another the empty one
abbrev pub Fits : BoardPart → List Call → Type 0
Fits Demo script = IsScript script
Fits (Text lines) script = script ≡ []

-- the head of a session and its board
abbrev pub before_setup : BoardPart → List (List ℕ)
before_setup board = codes "%session 1" ∷ board_lines board

-- the board stands before this line
pub record IsBehind (board : BoardPart) (demo : Bool) (number : ℕ) : Type 0 where
  pub is_board : IsBoardPart board
  pub same : is_demo board ≡ demo
  pub place : number ≡ length (before_setup board) + 1

-- the call lines of the workers
abbrev pub calls_of : List (List Call) → List (List (List ℕ))
calls_of scripts = map (map call_line) scripts

abbrev pub worker_line : List ℕ
worker_line = codes "%worker"

abbrev pub done_line : List ℕ
done_line = codes "%done"

-- what stands behind the workers that were ended
abbrev pub begun : Stage → List Call → List (List ℕ)
begun BeforeWorkers script = []
begun Worker script = worker_line ∷ map call_line script
begun Between script = []
begun Done script = done_line ∷ []

-- the lines up to here
abbrev pub lines_read : BoardPart → Progress → List (List ℕ)
lines_read board progress =
    before_setup board ++ (map setup_text progress.setup ++ (flat_map worker_lines (calls_of progress.scripts) ++ begun progress.stage progress.script))

-- what a stage says of the workers
abbrev pub IsAt : Stage → List (List Call) → List Call → Type 0
IsAt BeforeWorkers scripts script = (scripts ≡ []) × (script ≡ [])
IsAt Worker scripts script = length scripts < most_workers
IsAt Between scripts script = (0 < length scripts) × (script ≡ [])
IsAt Done scripts script = script ≡ []

-- no worker was begun that wasn't ended, nor was the session
abbrev pub IsOutside : Stage → Type 0
IsOutside BeforeWorkers = Unit {0}
IsOutside Worker = ⊥
IsOutside Between = Unit {0}
IsOutside Done = ⊥

-- what was read is the beginning of a session on this board
pub record IsSound (board : BoardPart) (progress : Progress) : Type 0 where
  pub is_board : IsBoardPart board
  pub same : is_demo board ≡ progress.demo
  pub setup : All IsSetup progress.setup
  pub scripts : All (Fits board) progress.scripts
  pub script : Fits board progress.script
  pub few : length progress.scripts ≤ most_workers
  pub short : All (λ script. length script ≤ most_lines) progress.scripts
  pub room : length progress.script ≤ most_lines
  pub stage : IsAt progress.stage progress.scripts progress.script

-- it is on some board
abbrev pub IsBeginning : Progress → Type 0
IsBeginning progress = (board : BoardPart) × IsSound board progress

-- one line more was read
pub record Reads (board : BoardPart) (old : Progress) (line : List ℕ) (new : Progress) : Type 0 where
  pub sound : IsSound board new
  pub lines : lines_read board new ≡ lines_read board old ++ line ∷ []

-- the frame of what was read to its end
abbrev pub frame_of : BoardPart → Progress → Frame
frame_of board progress = record { board = board; setup = progress.setup; workers = calls_of progress.scripts }
