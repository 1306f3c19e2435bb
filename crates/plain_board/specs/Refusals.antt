-- Which calls are refused, and why: the first of the reasons that holds is answered.
use Rattle.std.specs.Prelude.{ℕ, ◌==◌, ◌&&◌, ◌||◌, Bool, true, not, nat_le, nat_lt, List, [], ◌∷◌, find, length, Option, option_map, is_some, is_none}
use Rattle.std.specs.List.{list_any}
use Rattle.load_modes.specs.Modes.{mode_of_load}
use Rattle.board.specs.declared.board.Board.{Board}
use Rattle.board.specs.declared.rail.Rail.{Rail}
use Rattle.board.specs.declared.rail_id.RailId.{RailId}
use Rattle.board.specs.Rail.{counts_loads}
use Rattle.rows.specs.declared.answer.Answer.{Answer}
use Rattle.rows.specs.declared.answer.Answer.TheVariants.{BadRange, NoValue, Unbalanced, CountFull, StillEnabled, Taken, HandleOpen, HandlesFull, NoHandle, NotAllowed, NoMode, NotListening, Suspended, NotSuspended}
use Rattle.rows.specs.declared.call.Call.{Call}
use Rattle.rows.specs.declared.call.Call.TheVariants.{Open, Close, Enable, Disable, Set, Load, Get, IsOn, ModeOf, ListSel, Supported, Listen, Events, Suspend, Resume, ReleaseBoot}
use Rattle.use_counts.specs.declared.handle_row.HandleRow.{HandleRow}
use Rattle.plain_board.specs.declared.plain.Plain.{Plain}
use Rattle.plain_board.specs.Handles.{open_of, count_own, rows_on, for_open}
use Rattle.plain_board.specs.Counts.{load_sum}
use Rattle.plain_board.specs.Requests.{goal_of}
use Rattle.plain_board.specs.Plan.{changed, one_more, with_load}

-- a reason, and what is answered where it holds
abbrev pub Reason : Type 0
Reason = Bool × Answer

-- how many handles a worker can have open
abbrev pub most_handles : ℕ
most_handles = 64

-- how many enables a handle can have
abbrev pub most_enables : ℕ
most_enables = 65535

-- no mode that the rail may be in carries this sum of loads
abbrev pub overloads : Rail → ℕ → Reason
overloads rail sum = (counts_loads rail && is_none (mode_of_load rail.desc.greatest rail.limits.allowed sum), NoMode sum)

-- a handle that is to be alone, or one that is alone already, keeps others off its rail
abbrev pub excludes : Bool → List HandleRow → Reason
excludes exclusive rows = (list_any (λ row. row.exclusive) rows || exclusive && nat_lt 0 (length rows), Taken (length rows))

-- the reasons against a call on a handle: there is none of this name, or what is said of it and its rail
abbrev pub open_reasons : (RailId → Rail → HandleRow → List Reason) → Board → Plain → ℕ → List ℕ → List Reason
open_reasons said board plain worker name = for_open ((true, NoHandle) ∷ []) said board (open_of plain.handles worker name)

-- the reasons against a call, in the order in which they count
abbrev pub reasons : Board → Plain → ℕ → Call → List Reason
reasons board plain worker (Open handle rail exclusive) =
    (is_some (open_of plain.handles worker handle.bytes), HandleOpen)
    ∷ (nat_le most_handles (count_own plain.handles worker), HandlesFull most_handles)
    ∷ excludes exclusive (rows_on plain.handles rail.0) ∷ []
reasons board plain worker (Close handle) =
    open_reasons (λ id rail row. (nat_lt 0 row.enables, StillEnabled row.enables) ∷ []) board plain worker handle.bytes
reasons board plain worker (Enable handle) =
    open_reasons (λ id rail row.
    (plain.suspended, Suspended)
    ∷ (row.enables == most_enables, CountFull most_enables)
    ∷ overloads rail (load_sum rail (rows_on (changed plain worker handle.bytes one_more) id.0)) ∷ [])
    board plain worker handle.bytes
reasons board plain worker (Disable handle) =
    open_reasons (λ id rail row. (plain.suspended, Suspended) ∷ (row.enables == 0, Unbalanced 0) ∷ []) board plain worker handle.bytes
reasons board plain worker (Set handle lo hi) =
    open_reasons (λ id rail row.
    (plain.suspended, Suspended)
    ∷ (nat_lt hi lo, BadRange lo hi)
    ∷ (is_none (goal_of board plain worker handle.bytes id.0 (lo, hi)), NoValue) ∷ [])
    board plain worker handle.bytes
reasons board plain worker (Load handle ua) =
    open_reasons (λ id rail row.
    (plain.suspended, Suspended)
    ∷ (not (counts_loads rail), NotAllowed)
    ∷ overloads rail (load_sum rail (rows_on (changed plain worker handle.bytes (with_load ua)) id.0)) ∷ [])
    board plain worker handle.bytes
reasons board plain worker (Get handle) = open_reasons (λ id rail row. []) board plain worker handle.bytes
reasons board plain worker (IsOn handle) = open_reasons (λ id rail row. []) board plain worker handle.bytes
reasons board plain worker (ModeOf handle) = open_reasons (λ id rail row. []) board plain worker handle.bytes
reasons board plain worker (ListSel handle sel) = open_reasons (λ id rail row. []) board plain worker handle.bytes
reasons board plain worker (Supported handle lo hi) = open_reasons (λ id rail row. []) board plain worker handle.bytes
reasons board plain worker (Listen handle) = open_reasons (λ id rail row. []) board plain worker handle.bytes
reasons board plain worker (Events handle) =
    open_reasons (λ id rail row. (is_none row.cursor, NotListening) ∷ []) board plain worker handle.bytes
reasons board plain worker (Suspend state) = (plain.suspended, Suspended) ∷ []
reasons board plain worker Resume = (not plain.suspended, NotSuspended) ∷ []
reasons board plain worker ReleaseBoot = (plain.suspended, Suspended) ∷ []

-- why a call is refused, where it is: the first reason that holds
abbrev pub refusal : Board → Plain → ℕ → Call → Option Answer
refusal board plain worker call = option_map (λ reason. reason.1) (find (λ reason. reason.0) (reasons board plain worker call))
