-- What a text of a session stands for, or its first fault.
use Rattle.std.specs.Prelude.{ℕ, ◌≡◌, ◌≢◌, ◌<◌, ◌≤◌, ◌⊎◌, List, [], map, length, All, Some, None, Ok, Err}
use Rattle.board.specs.declared.board.Board.{Board}
use Rattle.board.specs.Lone.{IsLone}
use Rattle.rows.specs.declared.call.Call.{Call}
use Rattle.rows.specs.Row.{NamesRail}
use Rattle.board_draft.specs.declared.drafted.Drafted.{Drafted}
use Rattle.board_load.specs.Loading.{load}
use Rattle.plain_board.specs.Untied.{IsBuiltCall}
use Rattle.session.specs.declared.fault.SessionFault.{SessionFault}
use Rattle.session.specs.declared.fault.SessionKind.TheVariants.{TooLong}
use Rattle.session.specs.declared.session.Session.{Session}
use Rattle.session.specs.BoardText.{BoardComes}
use Rattle.session.specs.Forms.{most_workers, most_lines}
use Rattle.session.specs.Frame.{Frame}
use Rattle.session.specs.Grammar.{AreFrame, LeavesSession}
use Rattle.session.specs.Lines.{lines_of, unended}
use Rattle.session.specs.Loading.{found_regs, refusals_in, loading_fault}
use Rattle.session.specs.Script.{IsScript, call_line}

-- how many bytes a session may have
abbrev pub session_limit : ℕ
session_limit = 4194304

-- the text has this frame, and isn't too long
pub record HasFrame (bytes : List ℕ) (frame : Frame) : Type 0 where
  pub short : length bytes ≤ session_limit
  pub lines : AreFrame (lines_of bytes) (unended bytes) frame

-- the text has this frame, whose board is this one
pub record HasBoard (bytes : List ℕ) (frame : Frame) (drafted : Drafted) : Type 0 where
  pub has_frame : HasFrame bytes frame
  pub board : BoardComes frame.board (Ok drafted)

-- the text is this session
pub record IsSession (bytes : List ℕ) (session : Session) : Type 0 where
  pub frame : Frame
  pub drafted : Drafted
  pub has : HasBoard bytes frame drafted
  -- nothing is wrong with its registers, nor with its board beside them
  pub none : loading_fault frame drafted ≡ None
  -- its board is loaded from these registers
  pub loaded : load drafted.board (found_regs drafted frame.setup) ≡ Some session.loaded
  -- the updates that are refused are those of its `%fault` lines
  pub refusals : session.refusals ≡ refusals_in frame.setup
  -- and the call lines of its workers are those of its scripts
  pub scripts : frame.workers ≡ map (map call_line) session.scripts
  pub calls : All IsScript session.scripts

-- too many bytes, and no line that shows it
pub record IsTooLong (bytes : List ℕ) (fault : SessionFault) : Type 0 where
  pub long : session_limit < length bytes
  pub is : fault ≡ record { line = 0; kind = TooLong }

-- a line that isn't one of a session that can be read, or an end where none can be
pub record IsBadFrame (bytes : List ℕ) (fault : SessionFault) : Type 0 where
  pub short : length bytes ≤ session_limit
  pub leaves : LeavesSession (lines_of bytes) (unended bytes) fault.line fault.kind

-- a board text that makes no board
pub record IsBadBoard (bytes : List ℕ) (fault : SessionFault) : Type 0 where
  pub frame : Frame
  pub has : HasFrame bytes frame
  pub board : BoardComes frame.board (Err fault)

-- a board that can't be loaded from its registers
pub record IsBadLoad (bytes : List ℕ) (fault : SessionFault) : Type 0 where
  pub frame : Frame
  pub drafted : Drafted
  pub has : HasBoard bytes frame drafted
  pub refused : loading_fault frame drafted ≡ Some fault

-- the first fault of a text; each of these ways is closed where an earlier one is open
abbrev pub FirstFault : List ℕ → SessionFault → Type 0
FirstFault bytes fault = IsTooLong bytes fault ⊎ IsBadFrame bytes fault ⊎ IsBadBoard bytes fault ⊎ IsBadLoad bytes fault

-- what the scripts of a session ask of its board: there are at most sixteen of at most 4,096 lines, of calls that are built, and a call comes on a board of one rail alone
pub record ArePlayable (board : Board) (scripts : List (List Call)) : Type 0 where
  pub few : length scripts ≤ most_workers
  pub short : All (λ script. length script ≤ most_lines) scripts
  pub calls : All (All IsBuiltCall) scripts
  pub rails : All (All (NamesRail board)) scripts
  pub lone : All (λ script. script ≢ [] → IsLone board) scripts
