-- The one line that is written for a refused session.
use Rattle.std.specs.Prelude.{ℕ, List, [], ◌∷◌, codes, decimal}
use Rattle.rows.specs.Words.{spaced, ended}
use Rattle.board_draft.specs.Text.{told, text_of}
use Rattle.session.specs.declared.fault.SessionFault.{SessionFault}
use Rattle.session.specs.declared.fault.SessionKind.{SessionKind}
use Rattle.session.specs.declared.fault.SessionKind.TheVariants.{TooLong, BadSession, NotYet, TooManyWorkers, TooManyLines, BadChar, Unclosed, NumberTooWide, Syntax, NoLabel, TwoLabels, NotSupported, TooDeep, Board, BadReg, NoVector, Memory}

-- the words of a kind; want of memory has none
abbrev pub kind_text : SessionKind → List ℕ
kind_text TooLong = codes "toolong"
kind_text BadSession = codes "badsession"
kind_text NotYet = codes "notyet"
kind_text TooManyWorkers = codes "toomanyworkers"
kind_text TooManyLines = codes "toomanylines"
kind_text (BadChar at) = told (codes "badchar") (at ∷ [])
kind_text (Unclosed at) = told (codes "unclosed") (at ∷ [])
kind_text (NumberTooWide at) = told (codes "numbertoowide") (at ∷ [])
kind_text (Syntax at) = told (codes "syntax") (at ∷ [])
kind_text (NoLabel at) = told (codes "nolabel") (at ∷ [])
kind_text (TwoLabels at) = told (codes "twolabels") (at ∷ [])
kind_text (NotSupported at) = told (codes "notsupported") (at ∷ [])
kind_text (TooDeep at) = told (codes "toodeep") (at ∷ [])
kind_text (Board fault) = text_of fault
kind_text BadReg = codes "badreg"
kind_text (NoVector r) = told (codes "novector") (r ∷ [])
kind_text Memory = []

abbrev pub refusal_text : SessionFault → List ℕ
refusal_text fault = ended (spaced (codes "refused" ∷ decimal fault.line ∷ kind_text fault.kind ∷ []))
