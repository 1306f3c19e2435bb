-- Which sessions of the grammar are built so far, and their limits.
use Rattle.std.specs.Prelude.{ℕ, ◌≡◌, ◌≤◌, List, [], map, length, All}
use Rattle.rows.specs.declared.call.Call.{Call}
use Rattle.session.specs.Frame.{BoardPart, Demo, Text, Frame, IsFrame}
use Rattle.session.specs.Script.{IsScript, call_line}

-- the call lines of a worker that are built: on the built-in board a script, on a board of its own none
abbrev pub AreBuiltLines : BoardPart → List (List ℕ) → Type 0
AreBuiltLines Demo lines = (calls : List Call) × IsScript calls × (lines ≡ map call_line calls)
AreBuiltLines (Text text) lines = lines ≡ []

-- how many workers there may be, and how many lines each may have
abbrev pub most_workers : ℕ
most_workers = 16

abbrev pub most_lines : ℕ
most_lines = 4096

-- a session of the forms that are built so far
pub record IsBuilt (frame : Frame) : Type 0 where
  pub grammar : IsFrame frame
  pub workers : All (AreBuiltLines frame.board) frame.workers

-- one that hasn't too many workers
pub record HasFewWorkers (frame : Frame) : Type 0 where
  pub built : IsBuilt frame
  pub few : length frame.workers ≤ most_workers

-- and none of them too many lines
pub record IsWithinLimits (frame : Frame) : Type 0 where
  pub workers : HasFewWorkers frame
  pub short : All (λ lines. length lines ≤ most_lines) frame.workers
