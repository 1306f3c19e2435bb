-- What the readers of a session's parts find.
use Rattle.std.specs.Prelude.{ℕ, ◌≡◌, ◌≢◌, ◌+◌, ◌≤◌, List, [], ◌∷◌, ◌++◌, length, codes, All, Option, Some}
use Rattle.session.specs.declared.fault.SessionFault.{SessionFault}
use Rattle.session.specs.declared.fault.SessionKind.TheVariants.{Memory}
use Rattle.session.specs.declared.progress.Progress.{Progress}
use Rattle.session.specs.BoardText.{text_of}
use Rattle.session.specs.Frame.{BoardPart, end_line, HasNoEnd, IsBoardPart}
use Rattle.session.specs.Grammar.{AreFrame, LeavesSession}
use Rattle.session.specs.Lines.{lines_of, unended}
use Rattle.session.specs.Script.{IsScript}
use Rattle.session.specs.Inside.Progress.{before_setup, frame_of}
use Rattle.session.specs.Inside.Read.{board_text}

-- these lines stand before the rest of a text
pub record StandBefore (bytes : List ℕ) (lines : List (List ℕ)) (rest : List ℕ) : Type 0 where
  pub before : lines_of bytes ≡ lines ++ lines_of rest
  pub ended : unended bytes ≡ unended rest

-- the head and the board of a session, with the board's text, if it has one, and the number of the next line
pub record IsBoardRead (bytes : List ℕ) (text : Option (List ℕ)) (rest : List ℕ) (number : ℕ) : Type 0 where
  pub board : BoardPart
  pub is_board : IsBoardPart board
  pub told : text ≡ board_text board
  pub stand : StandBefore bytes (before_setup board) rest
  pub place : number ≡ length (before_setup board) + 1
  pub room : number + length rest ≤ length bytes + 3

-- the text of a board and the line that ends it
pub record IsTextRead (bytes : List ℕ) (text : Option (List ℕ)) (rest : List ℕ) (number : ℕ) : Type 0 where
  pub lines : List (List ℕ)
  pub no_end : HasNoEnd lines
  pub told : text ≡ Some (text_of lines)
  pub stand : StandBefore bytes (lines ++ end_line ∷ []) rest
  pub place : number ≡ length lines + 4
  pub room : number + length rest ≤ length bytes + 3

-- a text of a board without an end, behind two lines
abbrev pub IsTextFault : List ℕ → SessionFault → Type 0
IsTextFault bytes fault = LeavesSession (codes "%session 1" ∷ codes "%board dts" ∷ lines_of bytes) (unended bytes) fault.line fault.kind

-- the lines behind a board are the rest of a session
pub record IsRestRead (board : BoardPart) (bytes : List ℕ) (progress : Progress) : Type 0 where
  pub frame : AreFrame (before_setup board ++ lines_of bytes) (unended bytes) (frame_of board progress)
  pub calls : All IsScript progress.scripts

-- or the first of them that isn't
abbrev pub IsRestFault : BoardPart → List ℕ → SessionFault → Type 0
IsRestFault board bytes fault = fault.kind ≢ Memory → LeavesSession (before_setup board ++ lines_of bytes) (unended bytes) fault.line fault.kind
