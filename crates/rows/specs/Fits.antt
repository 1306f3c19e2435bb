-- Which rows a board can have.
use Rattle.std.specs.Prelude.{ℕ, ◌≡◌, ◌^◌, ◌<◌, ◌≤◌, List, All, length, map, flat_map, IfSome}
use Rattle.board.specs.declared.board.Board.{Board}
use Rattle.board.specs.declared.event.Event.{Event}
use Rattle.board.specs.declared.event.Event.TheVariants.{PreVoltageChange, VoltageChange, AbortVoltageChange, Enable as EnableEvent, PreDisable, Disable as DisableEvent, AbortDisable}
use Rattle.board.specs.declared.rail_id.RailId.{RailId}
use Rattle.board.specs.declared.write.Write.{Write}
use Rattle.board.specs.Valid.{IsValid}
use Rattle.rows.specs.declared.answer.Answer.{Answer}
use Rattle.rows.specs.declared.answer.Answer.TheVariants.{Ok, OkTime, OkSet, OkMode, OkUv, OkOn, OkList, OkYes, OkEvents, BadRange, NoValue, Unbalanced, CountFull, StillEnabled, Taken, HandleOpen, HandlesFull, NoHandle, NotAllowed, NoMode, NotListening, Suspended, NotSuspended, Fault}
use Rattle.rows.specs.declared.call.Call.{Call}
use Rattle.rows.specs.declared.call.Call.TheVariants.{Open, Close, Enable, Disable, Set, Load, Get, IsOn, ModeOf, ListSel, Supported, Listen, Events, Suspend, Resume, ReleaseBoot}
use Rattle.rows.specs.declared.row.Row.{Row}
use Rattle.rows.specs.Reading.{IsCall, trimmed_call}
use Rattle.rows.specs.Row.{row_text, NamesRail}

-- what a call is told when it is done
pub data Told : Type 0 where
  Nothing : Told
  Delay : Told
  UvAndDelay : Told
  AMode : Told
  Uv : Told
  OnOrOff : Told
  UvOrNone : Told
  YesOrNo : Told
  TheEvents : Told

abbrev pub told : Call → Told
told (Open handle rail exclusive) = Nothing
told (Close handle) = Nothing
told (Enable handle) = Delay
told (Disable handle) = Nothing
told (Set handle lo hi) = UvAndDelay
told (Load handle ua) = AMode
told (Get handle) = Uv
told (IsOn handle) = OnOrOff
told (ModeOf handle) = AMode
told (ListSel handle sel) = UvOrNone
told (Supported handle lo hi) = YesOrNo
told (Listen handle) = Nothing
told (Events handle) = TheEvents
told (Suspend state) = Nothing
told Resume = Nothing
told ReleaseBoot = Nothing

-- the values of an event fit their type
abbrev pub FitsEvent : Event → Type 0
FitsEvent (PreVoltageChange old new) = (old < 2 ^ 32) × (new < 2 ^ 32)
FitsEvent (VoltageChange uv) = uv < 2 ^ 32
FitsEvent (AbortVoltageChange uv) = uv < 2 ^ 32
FitsEvent EnableEvent = Unit {0}
FitsEvent PreDisable = Unit {0}
FitsEvent DisableEvent = Unit {0}
FitsEvent AbortDisable = Unit {0}

-- a rail of the board, at a value that fits its type
abbrev pub FitsNow : Board → RailId × ℕ → Type 0
FitsNow board now = (now.0.0 < length board.rails) × (now.1 < 2 ^ 32)

-- an answer to a call that is told this when it is done: that, or any refusal, with numbers that fit their types
abbrev pub FitsTold : Board → Told → Answer → Type 0
FitsTold board kind Ok = kind ≡ Nothing
FitsTold board kind (OkTime delay) = (kind ≡ Delay) × (delay < 2 ^ 64)
FitsTold board kind (OkSet uv delay) = (kind ≡ UvAndDelay) × (uv < 2 ^ 32) × (delay < 2 ^ 64)
FitsTold board kind (OkMode mode) = kind ≡ AMode
FitsTold board kind (OkUv uv) = (kind ≡ Uv) × (uv < 2 ^ 32)
FitsTold board kind (OkOn on) = kind ≡ OnOrOff
FitsTold board kind (OkList uv) = (kind ≡ UvOrNone) × IfSome uv (λ n. n < 2 ^ 32)
FitsTold board kind (OkYes is) = kind ≡ YesOrNo
FitsTold board kind (OkEvents list) = (kind ≡ TheEvents) × (length list ≤ 64) × All FitsEvent list
FitsTold board kind (BadRange lo hi) = (lo < 2 ^ 32) × (hi < 2 ^ 32)
FitsTold board kind NoValue = Unit {0}
FitsTold board kind (Unbalanced enables) = enables ≡ 0
FitsTold board kind (CountFull enables) = enables ≡ 65535
FitsTold board kind (StillEnabled enables) = enables < 2 ^ 32
FitsTold board kind (Taken handles) = handles < 2 ^ 32
FitsTold board kind HandleOpen = Unit {0}
FitsTold board kind (HandlesFull handles) = handles ≡ 64
FitsTold board kind NoHandle = Unit {0}
FitsTold board kind NotAllowed = Unit {0}
FitsTold board kind (NoMode sum) = sum < 2 ^ 64
FitsTold board kind NotListening = Unit {0}
FitsTold board kind Suspended = Unit {0}
FitsTold board kind NotSuspended = Unit {0}
FitsTold board kind (Fault chip reg applied now) =
    (chip < 2 ^ 8) × (reg < 2 ^ 8) × (applied < 2 ^ 32) × All (FitsNow board) now

-- an answer that the call may be given
abbrev pub FitsAnswer : Board → Call → Answer → Type 0
FitsAnswer board call answer = FitsTold board (told call) answer

-- a write to a chip of the board
abbrev pub FitsWrite : Board → Write → Type 0
FitsWrite board write = (write.chip < board.chips) × (write.chip < 2 ^ 8) × (write.reg < 2 ^ 8) × (write.mask < 2 ^ 8) × (write.bits < 2 ^ 8)

-- a row of this board
pub record Fits (board : Board) (row : Row) : Type 0 where
  pub worker : row.worker < 2 ^ 16
  pub line : row.line < 2 ^ 32
  pub call : IsCall row.call
  pub rail : NamesRail board row.call
  pub answer : FitsAnswer board row.call row.answer
  pub writes : All (FitsWrite board) row.writes

-- the row without the bytes that its handle's name doesn't use
abbrev pub trimmed_row : Row → Row
trimmed_row row = record row { call = trimmed_call row.call }

-- rows of a valid board are told by their lines
abbrev pub TextsTellRows : Type 0
TextsTellRows = (board : Board) (rows others : List Row) → IsValid board → All (Fits board) rows → All (Fits board) others
    → flat_map (row_text board) rows ≡ flat_map (row_text board) others → map trimmed_row rows ≡ map trimmed_row others
