-- What `front` and `top` say of a run of the program.
use Rattle.std.specs.Prelude.{ℕ, ◌≡◌, ◌+◌, ◌⊎◌, List, length, slice_get, Some, None}
use Rattle.reg_outside.specs.Count.{Rose, Stayed}
use Rattle.board.specs.declared.write.Write.{Write}
use Rattle.plain_board.specs.Stops.{is_planned}
use Rattle.session.specs.declared.fault.SessionFault.{SessionFault}
use Rattle.session.specs.declared.session.Session.{Session}
use Rattle.session.specs.Session.{session_limit, IsSession, FirstFault}
use Rattle.regulator_main.specs.declared.status.Status.{Status}
use Rattle.regulator_main.specs.declared.status.Status.TheVariants.{Done, Memory, Words, ReadFault, SessionRefused, LoadFault}
use Rattle.regulator_main.specs.declared.words.Command.{Command}
use Rattle.regulator_main.specs.declared.words.Command.TheVariants.{Check, Solo}
use Rattle.regulator_main.specs.Bringing.{planned_stop}
use Rattle.regulator_main.specs.Input.{TookAtMost}
use Rattle.regulator_main.specs.Outside.{Outside, Reads, Writes}
use Rattle.regulator_main.specs.Reply.{Replies}
use Rattle.regulator_main.specs.Words.{AreWordsOf}

-- a text was read, and its reply was written
pub record Answers (command : Command) (before after : Outside) (status : Status) : Type 0 where
  pub bytes : List ℕ
  pub text : List ℕ
  pub end : Status
  pub reads : Reads bytes before.input after.input
  pub replies : Replies command bytes (record { text = text; end = end; before = before.wires; after = after.wires })
  pub writes : Writes text end before.output after.output status

-- there was no memory for it; nothing was written
pub record WantsMemory (before after : Outside) (status : Status) : Type 0 where
  pub took : TookAtMost (session_limit + 1) before.input.left after.input.left
  pub calm : after.input.faults ≡ before.input.faults
  pub output : after.output ≡ before.output
  pub ends : status ≡ Memory

-- the source failed; nothing was written, and no wire was used
pub record CantRead (before after : Outside) (status : Status) : Type 0 where
  pub took : TookAtMost (session_limit + 1) before.input.left after.input.left
  pub rose : Rose before.input.faults after.input.faults
  pub output : after.output ≡ before.output
  pub wires : after.wires ≡ before.wires
  pub ends : status ≡ ReadFault

-- how a command goes
abbrev pub CommandGoes : Command → Outside → Outside → Status → Type 0
CommandGoes command before after status = Answers command before after status ⊎ WantsMemory before after status ⊎ CantRead before after status

-- the words are no command, and nothing was done
pub record IsNoCommand (words : List (List ℕ)) (before after : Outside) (status : Status) : Type 0 where
  pub none : (command : Command) → AreWordsOf command words → ⊥
  pub stays : after ≡ before
  pub ends : status ≡ Words

-- the words are a command, and this is how it went
pub record IsCommand (words : List (List ℕ)) (before after : Outside) (status : Status) : Type 0 where
  pub command : Command
  pub are : AreWordsOf command words
  pub goes : CommandGoes command before after status

-- how a run of the program goes
abbrev pub Goes : List (List ℕ) → Outside → Outside → Status → Type 0
Goes words before after status = IsNoCommand words before after status ⊎ IsCommand words before after status

-- the source tells these bytes, and neither it nor the sink fails
pub record IsGiven (bytes : List ℕ) (before after : Outside) : Type 0 where
  pub told : before.input.left ≡ Some bytes
  pub source : Stayed before.input.faults after.input.faults
  pub sink : Stayed before.output.faults after.output.faults

-- where a session is given, it is checked or run, or there was no memory
pub record AnswersSessions (words : List (List ℕ)) (before after : Outside) (status : Status) : Type 0 where
  pub checked : (bytes : List ℕ) (session : Session) → AreWordsOf Check words → IsGiven bytes before after → IsSession bytes session
      → (status ≡ Done) ⊎ (status ≡ Memory)
  -- where the lab counts no fault of the load, it is made unless it is planned to be stopped, and then stopped there
  pub run : (bytes : List ℕ) (session : Session) → AreWordsOf Solo words → IsGiven bytes before after → IsSession bytes session → Stayed (before.wires.counts 0) (after.wires.counts 0)
      → planned_stop (is_planned session.refusals 0) (length session.loaded.writes) ≡ None
      → (status ≡ Done) ⊎ (status ≡ Memory)
  pub stopped : (bytes : List ℕ) (session : Session) → AreWordsOf Solo words → IsGiven bytes before after → IsSession bytes session → Stayed (before.wires.counts 0) (after.wires.counts 0)
      → (made : ℕ) (write : Write) → planned_stop (is_planned session.refusals 0) (length session.loaded.writes) ≡ Some made → slice_get session.loaded.writes made ≡ Some write
      → (status ≡ LoadFault write.chip write.reg) ⊎ (status ≡ Memory)

-- and where a text with a fault is given, it is refused for that
abbrev pub AnswersFaults : List (List ℕ) → Outside → Outside → Status → Type 0
AnswersFaults words before after status =
    (command : Command) (bytes : List ℕ) (fault : SessionFault) → AreWordsOf command words → IsGiven bytes before after → FirstFault bytes fault
    → (status ≡ SessionRefused fault) ⊎ (status ≡ Memory)

-- what a caller can rely on
pub record IsRun (words : List (List ℕ)) (before after : Outside) (status : Status) : Type 0 where
  pub goes : Goes words before after status
  pub sessions : AnswersSessions words before after status
  pub faults : AnswersFaults words before after status
