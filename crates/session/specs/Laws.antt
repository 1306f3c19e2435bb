-- What a reader of sessions expects.
use Rattle.std.specs.Prelude.{ℕ, ◌≡◌, List, map}
use Rattle.board.specs.declared.board.Board.{Board}
use Rattle.board_draft.specs.Sketch.{trimmed}
use Rattle.session.specs.declared.fault.SessionFault.{SessionFault}
use Rattle.session.specs.declared.session.Session.{Session}
use Rattle.session.specs.Script.{call_line}
use Rattle.session.specs.Session.{IsSession, FirstFault}

-- a session has no fault
abbrev pub SessionsHaveNoFault : Type 0
SessionsHaveNoFault = (bytes : List ℕ) (session : Session) (fault : SessionFault) → IsSession bytes session → FirstFault bytes fault → ⊥

-- a text has one first fault at most
abbrev pub OneFault : Type 0
OneFault = (bytes : List ℕ) (first second : SessionFault) → FirstFault bytes first → FirstFault bytes second → first ≡ second

-- a board without the bytes that the names of its rails don't use
abbrev pub trimmed_board : Board → Board
trimmed_board board = record board { rails = map trimmed board.rails }

-- two sessions say the same: their boards, the writes of loading, the plain boards after it, the updates that are refused, and the call lines
pub record SayTheSame (first second : Session) : Type 0 where
  pub boards : trimmed_board first.loaded.board ≡ trimmed_board second.loaded.board
  pub writes : first.loaded.writes ≡ second.loaded.writes
  pub plain : first.loaded.plain ≡ second.loaded.plain
  pub refusals : first.refusals ≡ second.refusals
  pub scripts : map (map call_line) first.scripts ≡ map (map call_line) second.scripts

-- two readings of a text say the same
abbrev pub OneSession : Type 0
OneSession = (bytes : List ℕ) (first second : Session) → IsSession bytes first → IsSession bytes second → SayTheSame first second
