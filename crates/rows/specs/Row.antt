-- The lines that are printed of a row.
use Rattle.std.specs.Prelude.{ℕ, ◌<◌, All, List, [], ◌∷◌, ◌++◌, codes, decimal, flat_map, length, slice_get, Option, Some, None}
use Rattle.board.specs.declared.board.Board.{Board}
use Rattle.board.specs.declared.rail.Rail.{Rail}
use Rattle.board.specs.declared.rail_id.RailId.{RailId}
use Rattle.board.specs.declared.write.Write.{Write}
use Rattle.rows.specs.declared.answer.Answer.{Answer}
use Rattle.rows.specs.declared.answer.Answer.TheVariants.{Fault}
use Rattle.rows.specs.declared.call.Call.{Call}
use Rattle.rows.specs.declared.call.Call.TheVariants.{Open}
use Rattle.rows.specs.declared.row.Row.{Row}
use Rattle.rows.specs.Words.{spaced, ended, hex_text}
use Rattle.rows.specs.CallText.{call_text}
use Rattle.rows.specs.AnswerText.{answer_text}

-- the name of a rail
abbrev pub name_of : Option Rail → List ℕ
name_of None = []
name_of (Some rail) = rail.name.bytes

abbrev pub rail_name : Board → RailId → List ℕ
rail_name board id = name_of (slice_get board.rails id.0)

-- the line of a register write that a row keeps
abbrev pub write_text : Write → List ℕ
write_text write = ended (spaced (codes "+" ∷ decimal write.chip ∷ hex_text write.reg ∷ hex_text write.mask ∷ hex_text write.bits ∷ []))

-- the line of a row: the worker, the number of its line, the call and the answer; then its writes
abbrev pub row_text : Board → Row → List ℕ
row_text board row =
    ended (spaced (decimal row.worker ∷ decimal row.line ∷ call_text (rail_name board) row.call ∷ codes "->"
    ∷ answer_text (rail_name board) row.answer ∷ []))
    ++ flat_map write_text row.writes

-- a rail that a call names is a rail of the board
abbrev pub NamesRail : Board → Call → Type 0
NamesRail board (Open handle rail exclusive) = rail.0 < length board.rails
NamesRail board _ = Unit {0}

-- the rails that an answer tells of are rails of the board
abbrev pub HasRails : Board → Answer → Type 0
HasRails board (Fault chip reg applied now) = All (λ rail. rail.0.0 < length board.rails) now
HasRails board _ = Unit {0}
