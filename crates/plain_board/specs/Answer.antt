-- What a call is answered, and the plain board after it.
use Rattle.std.specs.Prelude.{ℕ, ◌+◌, ◌==◌, ◌&&◌, Bool, true, false, not, List, [], map, filter, length, take, drop, sum_by, slice_get, slice_index_or, Option, Some, None, unwrap_or, if◌then◌else◌}
use Rattle.std.specs.List.{list_any, enumerate_from}
use Rattle.std.specs.Option.{option_map_or}
use Rattle.arrayvec.specs.ArrayString.{ArrayString}
use Rattle.ramp_delay.specs.Times.{time_of}
use Rattle.board.specs.declared.board.Board.{Board}
use Rattle.board.specs.declared.event.Event.{Event}
use Rattle.board.specs.declared.rail.Rail.{Rail}
use Rattle.board.specs.declared.rail_id.RailId.{RailId}
use Rattle.board.specs.declared.write.Write.{Write}
use Rattle.board.specs.Table.{uv_of}
use Rattle.board.specs.Rail.{uv, is_on, mode, allowed}
use Rattle.rail_law.specs.Moves.{Move, writes_of}
use Rattle.rows.specs.declared.answer.Answer.{Answer}
use Rattle.rows.specs.declared.answer.Answer.TheVariants.{Ok, OkTime, OkSet, OkMode, OkUv, OkOn, OkList, OkYes, OkEvents, NoHandle, Fault}
use Rattle.rows.specs.declared.call.Call.{Call}
use Rattle.rows.specs.declared.call.Call.TheVariants.{Open, Close, Enable, Disable, Set, Load, Get, IsOn, ModeOf, ListSel, Supported, Listen, Events, Suspend, Resume, ReleaseBoot}
use Rattle.use_counts.specs.declared.handle_row.HandleRow.{HandleRow}
use Rattle.plain_board.specs.declared.plain.Plain.{Plain}
use Rattle.plain_board.specs.Handles.{open_of, with_open, without_open, for_open}
use Rattle.plain_board.specs.Requests.{meets}
use Rattle.plain_board.specs.Plan.{moves_of_call, always_holds, changed, one_more, one_less, with_load}
use Rattle.plain_board.specs.Refusals.{refusal}
use Rattle.plain_board.specs.Moved.{after_first}

-- how long a rail takes to come up
abbrev pub enable_time : Rail → ℕ
enable_time rail = if rail.limits.enable_ramp == 0 then rail.desc.enable_time else rail.limits.enable_ramp

-- how long the rails take to come up that are on in the second registers and not in the first
abbrev pub enable_delay : Board → List (List ℕ) → List (List ℕ) → ℕ
enable_delay board before now = sum_by (λ rail. if is_on rail now && not (is_on rail before) then enable_time rail else 0) board.rails

-- how long the rails take to come from where they stand in the first registers to where they stand in the second
abbrev pub set_delay : Board → List (List ℕ) → List (List ℕ) → ℕ
set_delay board before now = sum_by (λ rail. time_of rail.limits.times rail.desc.ramp (uv rail before) (uv rail now)) board.rails

-- a selector's value, where the rail may stand at it
abbrev pub listed : Rail → Option ℕ → Option ℕ
listed rail None = None
listed rail (Some uv) = if list_any (λ other. uv == other) (allowed rail) then Some uv else None

-- how many events are told at once
abbrev pub most_events : ℕ
most_events = 64

-- what a rail has told since a cursor, the oldest first
abbrev pub told_since : Plain → ℕ → Option ℕ → List Event
told_since plain i None = []
told_since plain i (Some cursor) = take most_events (drop cursor (slice_index_or plain.events i []))

-- what is answered of an open handle and its rail
abbrev pub of_open : (RailId → Rail → HandleRow → Answer) → Board → Plain → ℕ → ArrayString → Answer
of_open said board plain worker handle = for_open NoHandle said board (open_of plain.handles worker handle.bytes)

-- the answer of a call that was done, by the plain boards before and after its moves
abbrev pub says : Board → Plain → Plain → ℕ → Call → Answer
says board before now worker (Open handle rail exclusive) = Ok
says board before now worker (Close handle) = Ok
says board before now worker (Enable handle) = OkTime (enable_delay board before.regs now.regs)
says board before now worker (Disable handle) = Ok
says board before now worker (Set handle lo hi) =
    of_open (λ id rail row. OkSet (uv rail now.regs) (set_delay board before.regs now.regs)) board before worker handle
says board before now worker (Load handle ua) = of_open (λ id rail row. OkMode (mode rail now.regs)) board before worker handle
says board before now worker (Get handle) = of_open (λ id rail row. OkUv (uv rail now.regs)) board before worker handle
says board before now worker (IsOn handle) = of_open (λ id rail row. OkOn (is_on rail now.regs)) board before worker handle
says board before now worker (ModeOf handle) = of_open (λ id rail row. OkMode (mode rail now.regs)) board before worker handle
says board before now worker (ListSel handle sel) = of_open (λ id rail row. OkList (listed rail (uv_of rail.desc.table sel))) board before worker handle
says board before now worker (Supported handle lo hi) =
    of_open (λ id rail row. OkYes (list_any (λ uv. meets uv (lo, hi)) (allowed rail))) board before worker handle
says board before now worker (Listen handle) = Ok
says board before now worker (Events handle) = of_open (λ id rail row. OkEvents (told_since before id.0 row.cursor)) board before worker handle
says board before now worker (Suspend state) = Ok
says board before now worker Resume = Ok
says board before now worker ReleaseBoot = Ok

-- a new handle enables, asks and draws nothing
abbrev pub new_row : ℕ → ArrayString → Bool → HandleRow
new_row worker handle exclusive = record {
  worker = worker;
  handle = handle;
  enables = 0;
  request = None;
  load = 0;
  cursor = None;
  exclusive = exclusive;
}

-- the plain board with another row of the worker's handle of this name
abbrev pub with_changed : Plain → ℕ → ArrayString → (HandleRow → HandleRow) → Plain
with_changed plain worker handle change = record plain { handles = changed plain worker handle.bytes change }

-- a handle that listens from an event on
abbrev pub with_cursor : Option ℕ → HandleRow → HandleRow
with_cursor cursor row = record row { cursor = cursor }

-- a handle with another request
abbrev pub with_request : Option (ℕ × ℕ) → HandleRow → HandleRow
with_request request row = record row { request = request }

-- the plain board after a call that was done, once its moves are made: handles, holds and flag
abbrev pub done : Board → Plain → ℕ → Call → Plain
done board now worker (Open handle rail exclusive) = record now { handles = with_open now.handles (rail, new_row worker handle exclusive) }
done board now worker (Close handle) = record now { handles = without_open now.handles worker handle.bytes }
done board now worker (Enable handle) = with_changed now worker handle one_more
done board now worker (Disable handle) = with_changed now worker handle one_less
done board now worker (Set handle lo hi) = with_changed now worker handle (with_request (Some (lo, hi)))
done board now worker (Load handle ua) = with_changed now worker handle (with_load ua)
done board now worker (Get handle) = now
done board now worker (IsOn handle) = now
done board now worker (ModeOf handle) = now
done board now worker (ListSel handle sel) = now
done board now worker (Supported handle lo hi) = now
done board now worker (Listen handle) =
    for_open now (λ id rail row. with_changed now worker handle (with_cursor (Some (length (slice_index_or now.events id.0 []))))) board (open_of now.handles worker handle.bytes)
done board now worker (Events handle) =
    for_open now (λ id rail row. with_changed now worker handle (with_cursor (option_map_or (λ cursor. Some (cursor + length (told_since now id.0 row.cursor))) row.cursor None)))
    board (open_of now.handles worker handle.bytes)
done board now worker (Suspend state) = record now { suspended = true }
done board now worker Resume = record now { suspended = false }
done board now worker ReleaseBoot = record now { holds = always_holds board now.holds }

-- a request that still stands where the rail stands at this value
abbrev pub kept_request : ℕ → Option (ℕ × ℕ) → Option (ℕ × ℕ)
kept_request uv None = None
kept_request uv (Some request) = if meets uv request then Some request else None

-- The plain board after a call that the bus stopped, once the moves before that are made. A disable
-- stays given up and the holds of the start stay ended; of a set the old request stands, if the rail
-- still meets it. All else is as it was.
abbrev pub stopped : Board → Plain → ℕ → Call → Plain
stopped board now worker (Disable handle) = with_changed now worker handle one_less
stopped board now worker (Set handle lo hi) =
    for_open now (λ id rail row. with_changed now worker handle (with_request (kept_request (uv rail now.regs) row.request))) board (open_of now.handles worker handle.bytes)
stopped board now worker ReleaseBoot = record now { holds = always_holds board now.holds }
stopped board now worker _ = now

-- the rails whose value changed, with their values
abbrev pub changed_rails : Board → List (List ℕ) → List (List ℕ) → List (RailId × ℕ)
changed_rails board before now =
    map (λ rail. (record { 0 = rail.0 }, uv rail.1 now)) (filter (λ rail. not (uv rail.1 before == uv rail.1 now)) (enumerate_from 0 board.rails))

-- a register write that is nowhere
abbrev pub no_write : Write
no_write = record { chip = 0; reg = 0; mask = 0; bits = 0 }

-- the answer where the bus refused a write after so many moves: its register, and the rails that changed
abbrev pub fault : Board → Plain → Plain → Write → ℕ → Answer
fault board before now refused made = Fault refused.chip refused.reg made (changed_rails board before.regs now.regs)

-- a call that isn't refused: all its moves are made, or the one after the first `made` is refused by the bus
abbrev pub settled : Board → Plain → ℕ → Call → List Move → Option ℕ → Answer × Plain
settled board plain worker call moves None =
    let now = after_first board plain (length moves) moves in (says board plain now worker call, done board now worker call)
settled board plain worker call moves (Some made) =
    let now = after_first board plain made moves in
    (fault board plain now (unwrap_or (slice_get (writes_of board moves) made) no_write) made, stopped board now worker call)

-- the moves of a call, by its refusal: a refused call makes none
abbrev pub planned : Board → Plain → ℕ → Call → Option Answer → List Move
planned board plain worker call (Some refused) = []
planned board plain worker call None = moves_of_call board plain worker call

-- the moves that a call makes if the bus refuses none
abbrev pub plan : Board → Plain → ℕ → Call → List Move
plan board plain worker call = planned board plain worker call (refusal board plain worker call)

-- the answer and the plain board after a call, by its refusal: a refused call changes nothing
abbrev pub answered : Board → Plain → ℕ → Call → Option ℕ → Option Answer → Answer × Plain
answered board plain worker call stop (Some refused) = (refused, plain)
answered board plain worker call stop None = settled board plain worker call (moves_of_call board plain worker call) stop

-- The answer to a worker's call, and the plain board after it. `stop` tells how many moves were
-- made before the bus refused one, where it did.
abbrev pub answer : Board → Plain → ℕ → Call → Option ℕ → Answer × Plain
answer board plain worker call stop = answered board plain worker call stop (refusal board plain worker call)
