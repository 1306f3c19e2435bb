-- What a command makes of a text: a session is checked or run, and another text is refused.
use Rattle.std.specs.Prelude.{ℕ, ◌≡◌, ◌≢◌, ◌⊎◌, List, []}
use Rattle.rows.specs.declared.row.Row.{Row}
use Rattle.plain_board.specs.Inv.{Inv}
use Rattle.session.specs.declared.fault.SessionFault.{SessionFault}
use Rattle.session.specs.declared.fault.SessionKind.TheVariants.{Memory as no_memory}
use Rattle.session.specs.declared.session.Session.{Session}
use Rattle.session.specs.Session.{IsSession, FirstFault}
use Rattle.session.specs.Text.{refusal_text}
use Rattle.regulator_main.specs.declared.status.Status.{Status}
use Rattle.regulator_main.specs.declared.status.Status.TheVariants.{Done, SessionRefused, LoadFault}
use Rattle.regulator_main.specs.declared.words.Command.{Command}
use Rattle.regulator_main.specs.declared.words.Command.TheVariants.{Check, Solo}
use Rattle.regulator_main.specs.Bringing.{StopsLoad}
use Rattle.regulator_main.specs.Runs.{Runs, text_of, load_fault_text}
use Rattle.regulator_main.specs.Wires.{Wires}

-- the reply to a text: what is to be written, how the run ends once it is, and what the wires were told before and after
pub record Reply : Type 0 where
  pub text : List ℕ
  pub end : Status
  pub before : Wires
  pub after : Wires

-- the session was checked: its loaded board is lawful with its plain board, and no wire was used
pub record Checks (session : Session) (reply : Reply) : Type 0 where
  pub lawful : Inv session.loaded.board session.loaded.plain
  pub text : reply.text ≡ text_of session []
  pub end : reply.end ≡ Done
  pub wires : reply.after ≡ reply.before

-- the session was run, to the end of its scripts
pub record RunsWhole (session : Session) (reply : Reply) : Type 0 where
  pub rows : List Row
  pub runs : Runs session rows reply.before reply.after
  pub text : reply.text ≡ text_of session rows
  pub end : reply.end ≡ Done

-- its load was stopped
pub record StopsAtLoad (session : Session) (reply : Reply) : Type 0 where
  pub chip : ℕ
  pub reg : ℕ
  pub stops : StopsLoad session.loaded.writes session.refusals chip reg reply.before reply.after
  pub text : reply.text ≡ load_fault_text chip reg
  pub end : reply.end ≡ LoadFault chip reg

-- what a command makes of a session
abbrev pub Does : Command → Session → Reply → Type 0
Does Check session reply = Checks session reply
Does Solo session reply = RunsWhole session reply ⊎ StopsAtLoad session reply

-- the text is a session, and this was done
pub record DoesSession (command : Command) (bytes : List ℕ) (reply : Reply) : Type 0 where
  pub session : Session
  pub is_session : IsSession bytes session
  pub does : Does command session reply

-- the text was refused for its first fault, and no wire was used
pub record Refuses (bytes : List ℕ) (reply : Reply) : Type 0 where
  pub fault : SessionFault
  pub first : FirstFault bytes fault
  pub known : fault.kind ≢ no_memory
  pub text : reply.text ≡ refusal_text fault
  pub end : reply.end ≡ SessionRefused fault
  pub wires : reply.after ≡ reply.before

-- how a command answers a text
abbrev pub Replies : Command → List ℕ → Reply → Type 0
Replies command bytes reply = DoesSession command bytes reply ⊎ Refuses bytes reply
