-- What a call is answered, in words.
use Rattle.std.specs.Prelude.{ℕ, List, [], ◌∷◌, ◌++◌, codes, decimal, flat_map, length, Option, Some, None}
use Rattle.board.specs.declared.event.Event.{Event}
use Rattle.board.specs.declared.event.Event.TheVariants.{PreVoltageChange, VoltageChange, AbortVoltageChange, Enable, PreDisable, Disable, AbortDisable}
use Rattle.board.specs.declared.rail_id.RailId.{RailId}
use Rattle.rows.specs.declared.answer.Answer.{Answer}
use Rattle.rows.specs.declared.answer.Answer.TheVariants.{Ok, OkTime, OkSet, OkMode, OkUv, OkOn, OkList, OkYes, OkEvents, BadRange, NoValue, Unbalanced, CountFull, StillEnabled, Taken, HandleOpen, HandlesFull, NoHandle, NotAllowed, NoMode, NotListening, Suspended, NotSuspended, Fault}
use Rattle.rows.specs.Words.{spaced, hex_text, mode_text, on_text, yes_text}

-- what a rail did, in words
abbrev pub event_text : Event → List ℕ
event_text (PreVoltageChange old new) = spaced (codes "pre-voltage-change" ∷ decimal old ∷ decimal new ∷ [])
event_text (VoltageChange uv) = spaced (codes "voltage-change" ∷ decimal uv ∷ [])
event_text (AbortVoltageChange uv) = spaced (codes "abort-voltage-change" ∷ decimal uv ∷ [])
event_text Enable = codes "enable"
event_text PreDisable = codes "pre-disable"
event_text Disable = codes "disable"
event_text AbortDisable = codes "abort-disable"

-- an event, as it follows the words before it
abbrev pub next_event_text : Event → List ℕ
next_event_text event = codes "; " ++ event_text event

-- how many events there are, and each of them
abbrev pub events_text : List Event → List ℕ
events_text list = spaced (codes "ok" ∷ decimal (length list) ∷ []) ++ flat_map next_event_text list

-- a value, where there is one
abbrev pub listed_text : Option ℕ → List ℕ
listed_text None = codes "none"
listed_text (Some uv) = decimal uv

-- a rail that changed, with its value, as it follows the words before it
abbrev pub now_text : (RailId → List ℕ) → RailId × ℕ → List ℕ
now_text name now = 32 ∷ spaced (name now.0 ∷ decimal now.1 ∷ [])

-- what a call is answered, by the names of the rails
abbrev pub answer_text : (RailId → List ℕ) → Answer → List ℕ
answer_text name Ok = codes "ok"
answer_text name (OkTime delay) = spaced (codes "ok" ∷ decimal delay ∷ [])
answer_text name (OkSet uv delay) = spaced (codes "ok" ∷ decimal uv ∷ decimal delay ∷ [])
answer_text name (OkMode mode) = spaced (codes "ok" ∷ mode_text mode ∷ [])
answer_text name (OkUv uv) = spaced (codes "ok" ∷ decimal uv ∷ [])
answer_text name (OkOn on) = spaced (codes "ok" ∷ on_text on ∷ [])
answer_text name (OkList uv) = spaced (codes "ok" ∷ listed_text uv ∷ [])
answer_text name (OkYes is) = spaced (codes "ok" ∷ yes_text is ∷ [])
answer_text name (OkEvents list) = events_text list
answer_text name (BadRange lo hi) = spaced (codes "badrange" ∷ decimal lo ∷ decimal hi ∷ [])
answer_text name NoValue = codes "novalue"
answer_text name (Unbalanced enables) = spaced (codes "unbalanced" ∷ decimal enables ∷ [])
answer_text name (CountFull enables) = spaced (codes "countfull" ∷ decimal enables ∷ [])
answer_text name (StillEnabled enables) = spaced (codes "stillenabled" ∷ decimal enables ∷ [])
answer_text name (Taken handles) = spaced (codes "taken" ∷ decimal handles ∷ [])
answer_text name HandleOpen = codes "handleopen"
answer_text name (HandlesFull handles) = spaced (codes "handlesfull" ∷ decimal handles ∷ [])
answer_text name NoHandle = codes "nohandle"
answer_text name NotAllowed = codes "notallowed"
answer_text name (NoMode sum) = spaced (codes "nomode" ∷ decimal sum ∷ [])
answer_text name NotListening = codes "notlistening"
answer_text name Suspended = codes "suspended"
answer_text name NotSuspended = codes "notsuspended"
answer_text name (Fault chip reg applied now) =
    spaced (codes "fault" ∷ decimal chip ∷ hex_text reg ∷ decimal applied ∷ []) ++ flat_map (now_text name) now
