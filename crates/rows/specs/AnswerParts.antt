-- The first word of an answer, and what stands behind it.
use Rattle.std.specs.Prelude.{ℕ, ◌≡◌, List, [], ◌∷◌, ◌++◌, codes, decimal, flat_map, length, Option, None, Some, Result, Ok, Err}
use Rattle.board.specs.declared.board.Board.{Board}
use Rattle.board.specs.declared.rail_id.RailId.{RailId}
use Rattle.rows.specs.declared.answer.Answer.{Answer}
use Rattle.rows.specs.declared.answer.Answer.TheVariants.{Ok as OkAnswer, OkTime, OkSet, OkMode, OkUv, OkOn, OkList, OkYes, OkEvents, BadRange, NoValue, Unbalanced, CountFull, StillEnabled, Taken, HandleOpen, HandlesFull, NoHandle, NotAllowed, NoMode, NotListening, Suspended, NotSuspended, Fault}
use Rattle.rows.specs.declared.row_fault.RowFault.{RowFault}
use Rattle.rows.specs.declared.row_fault.RowFault.TheVariants.{NotARow}
use Rattle.rows.specs.AnswerText.{next_event_text, now_text, listed_text}
use Rattle.rows.specs.Fits.{Told, FitsTold}
use Rattle.rows.specs.Row.{rail_name}
use Rattle.rows.specs.Words.{spaced, hex_text, mode_text, on_text, yes_text}

-- the first word, and what stands behind it if anything does, by the names of the rails
abbrev pub answer_parts : (RailId → List ℕ) → Answer → List (List ℕ)
answer_parts name OkAnswer = codes "ok" ∷ []
answer_parts name (OkTime delay) = codes "ok" ∷ decimal delay ∷ []
answer_parts name (OkSet uv delay) = codes "ok" ∷ spaced (decimal uv ∷ decimal delay ∷ []) ∷ []
answer_parts name (OkMode mode) = codes "ok" ∷ mode_text mode ∷ []
answer_parts name (OkUv uv) = codes "ok" ∷ decimal uv ∷ []
answer_parts name (OkOn on) = codes "ok" ∷ on_text on ∷ []
answer_parts name (OkList uv) = codes "ok" ∷ listed_text uv ∷ []
answer_parts name (OkYes is) = codes "ok" ∷ yes_text is ∷ []
answer_parts name (OkEvents list) = codes "ok" ∷ (decimal (length list) ++ flat_map next_event_text list) ∷ []
answer_parts name (BadRange lo hi) = codes "badrange" ∷ spaced (decimal lo ∷ decimal hi ∷ []) ∷ []
answer_parts name NoValue = codes "novalue" ∷ []
answer_parts name (Unbalanced enables) = codes "unbalanced" ∷ decimal enables ∷ []
answer_parts name (CountFull enables) = codes "countfull" ∷ decimal enables ∷ []
answer_parts name (StillEnabled enables) = codes "stillenabled" ∷ decimal enables ∷ []
answer_parts name (Taken handles) = codes "taken" ∷ decimal handles ∷ []
answer_parts name HandleOpen = codes "handleopen" ∷ []
answer_parts name (HandlesFull handles) = codes "handlesfull" ∷ decimal handles ∷ []
answer_parts name NoHandle = codes "nohandle" ∷ []
answer_parts name NotAllowed = codes "notallowed" ∷ []
answer_parts name (NoMode sum) = codes "nomode" ∷ decimal sum ∷ []
answer_parts name NotListening = codes "notlistening" ∷ []
answer_parts name Suspended = codes "suspended" ∷ []
answer_parts name NotSuspended = codes "notsuspended" ∷ []
answer_parts name (Fault chip reg applied now) =
    codes "fault" ∷ (spaced (decimal chip ∷ hex_text reg ∷ decimal applied ∷ []) ++ flat_map (now_text name) now) ∷ []

-- the parts are those of this answer to a call that is told this when it is done
pub record IsAnswer (board : Board) (kind : Told) (answer : Answer) (parts : List (List ℕ)) : Type 0 where
  pub is : FitsTold board kind answer
  pub spelled : parts ≡ answer_parts (rail_name board) answer

-- the parts are those of no answer to such a call
abbrev pub NoAnswer : Told → List (List ℕ) → Type 0
NoAnswer kind parts = (board : Board) (answer : Answer) → ¬ IsAnswer board kind answer parts

-- an answer, or that there is no row
abbrev pub or_no_row : Option Answer → Result Answer RowFault
or_no_row None = Err NotARow
or_no_row (Some answer) = Ok answer
