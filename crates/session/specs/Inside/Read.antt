-- The parts of a session as its reader has them.
use Rattle.std.specs.Prelude.{ℕ, ◌≡◌, ◌≢◌, List, map, All, Option, Some, None}
use Rattle.rows.specs.declared.call.Call.{Call}
use Rattle.session.specs.declared.fault.SessionFault.{SessionFault}
use Rattle.session.specs.declared.fault.SessionKind.TheVariants.{Memory}
use Rattle.session.specs.declared.setup.Setup.{Setup}
use Rattle.session.specs.BoardText.{text_of}
use Rattle.session.specs.Frame.{BoardPart, Demo, Text, Frame}
use Rattle.session.specs.Grammar.{AreFrame, LeavesSession}
use Rattle.session.specs.Lines.{lines_of, unended}
use Rattle.session.specs.Script.{IsScript, call_line}

-- the text of a board part, where it has one
abbrev pub board_text : BoardPart → Option (List ℕ)
board_text Demo = None
board_text (Text lines) = Some (text_of lines)

-- the parts as they are read
pub record Parts : Type 0 where
  pub text : Option (List ℕ)
  pub setup : List Setup
  pub scripts : List (List Call)

-- the text has these parts
pub record IsRead (bytes : List ℕ) (parts : Parts) : Type 0 where
  pub frame : Frame
  pub is_frame : AreFrame (lines_of bytes) (unended bytes) frame
  pub text : parts.text ≡ board_text frame.board
  pub setup : parts.setup ≡ frame.setup
  pub scripts : frame.workers ≡ map (map call_line) parts.scripts
  pub calls : All IsScript parts.scripts

-- the first line at which the text leaves the grammar; want of memory is no fault of its
abbrev pub IsFaultOf : List ℕ → SessionFault → Type 0
IsFaultOf bytes fault = fault.kind ≢ Memory → LeavesSession (lines_of bytes) (unended bytes) fault.line fault.kind
