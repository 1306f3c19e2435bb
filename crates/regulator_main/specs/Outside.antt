-- What is seen of the outside, and how a text is read and written.
use Rattle.std.specs.Prelude.{ℕ, ◌≡◌, ◌+◌, ◌<◌, ◌≤◌, ◌⊎◌, List, take, length, Option}
use Rattle.reg_outside.specs.Count.{Rose}
use Rattle.reg_outside.specs.Told.{with_before, with_more, IsSpent}
use Rattle.reg_outside.specs.Bus.{Updates}
use Rattle.session.specs.Session.{session_limit}
use Rattle.regulator_main.specs.declared.status.Status.{Status}
use Rattle.regulator_main.specs.declared.status.Status.TheVariants.{WriteFault}
use Rattle.regulator_main.specs.Wires.{Wires}

-- a source: the bytes that it has left, where it tells them, and how often it failed
pub record Input : Type 0 where
  pub left : Option (List ℕ)
  pub faults : ℕ

-- a sink: the bytes that it took, where it tells them, and how often it failed
pub record Output : Type 0 where
  pub written : Option (List ℕ)
  pub faults : ℕ

-- what is seen of the outside
pub record Outside : Type 0 where
  pub input : Input
  pub output : Output
  pub wires : Wires

abbrev pub outside : Option (List ℕ) → ℕ → Option (List ℕ) → ℕ → (ℕ → ℕ) → (ℕ → Option Updates) → Outside
outside left source_faults written sink_faults counts lists = record {
  input = record { left = left; faults = source_faults };
  output = record { written = written; faults = sink_faults };
  wires = record { counts = counts; lists = lists };
}

-- these bytes were read, and to the end, unless they are too many already
pub record Reads (bytes : List ℕ) (before after : Input) : Type 0 where
  pub taken : before.left ≡ with_before bytes after.left
  pub end : length bytes ≤ session_limit → IsSpent after.left
  pub few : length bytes ≤ session_limit + 1
  pub calm : after.faults ≡ before.faults

-- a text was written whole, and the run ends so
pub record WritesWhole (text : List ℕ) (end : Status) (before after : Output) (status : Status) : Type 0 where
  pub wrote : after.written ≡ with_more before.written text
  pub calm : after.faults ≡ before.faults
  pub ends : status ≡ end

-- the sink failed when so much of a text had gone out
pub record IsCut (text : List ℕ) (before after : Output) (status : Status) : Type 0 where
  pub kept : ℕ
  pub within : kept < length text
  pub wrote : after.written ≡ with_more before.written (take kept text)
  pub rose : Rose before.faults after.faults
  pub ends : status ≡ WriteFault kept

-- how a text is written
abbrev pub Writes : List ℕ → Status → Output → Output → Status → Type 0
Writes text end before after status = WritesWhole text end before after status ⊎ IsCut text before after status
