-- The line that a call is read from.
use Rattle.std.specs.Prelude.{ℕ, List, [], ◌∷◌, codes, decimal, if◌then◌else◌}
use Rattle.board.specs.declared.rail_id.RailId.{RailId}
use Rattle.rows.specs.declared.call.Call.{Call}
use Rattle.rows.specs.declared.call.Call.TheVariants.{Open, Close, Enable, Disable, Set, Load, Get, IsOn, ModeOf, ListSel, Supported, Listen, Events, Suspend, Resume, ReleaseBoot}
use Rattle.rows.specs.Words.{spaced, state_text}

-- the words of a call line, by the names of the rails
abbrev pub call_words : (RailId → List ℕ) → Call → List (List ℕ)
call_words name (Open handle rail exclusive) = (if exclusive then codes "openx" else codes "open") ∷ handle.bytes ∷ name rail ∷ []
call_words name (Close handle) = codes "close" ∷ handle.bytes ∷ []
call_words name (Enable handle) = codes "enable" ∷ handle.bytes ∷ []
call_words name (Disable handle) = codes "disable" ∷ handle.bytes ∷ []
call_words name (Set handle lo hi) = codes "set" ∷ handle.bytes ∷ decimal lo ∷ decimal hi ∷ []
call_words name (Load handle ua) = codes "load" ∷ handle.bytes ∷ decimal ua ∷ []
call_words name (Get handle) = codes "get" ∷ handle.bytes ∷ []
call_words name (IsOn handle) = codes "ison" ∷ handle.bytes ∷ []
call_words name (ModeOf handle) = codes "mode" ∷ handle.bytes ∷ []
call_words name (ListSel handle sel) = codes "list" ∷ handle.bytes ∷ decimal sel ∷ []
call_words name (Supported handle lo hi) = codes "supported" ∷ handle.bytes ∷ decimal lo ∷ decimal hi ∷ []
call_words name (Listen handle) = codes "listen" ∷ handle.bytes ∷ []
call_words name (Events handle) = codes "events" ∷ handle.bytes ∷ []
call_words name (Suspend state) = codes "suspend" ∷ state_text state ∷ []
call_words name Resume = codes "resume" ∷ []
call_words name ReleaseBoot = codes "release-boot" ∷ []

-- the call line of a call
abbrev pub call_text : (RailId → List ℕ) → Call → List ℕ
call_text name call = spaced (call_words name call)
