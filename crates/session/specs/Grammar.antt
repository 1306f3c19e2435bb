-- The first line at which a text leaves the sessions that can be read.
use Rattle.std.specs.Prelude.{ℕ, ◌≡◌, ◌+◌, ◌<◌, ◌≤◌, List, [], take, length}
use Rattle.session.specs.declared.fault.SessionKind.{SessionKind}
use Rattle.session.specs.declared.fault.SessionKind.TheVariants.{BadSession, NotYet, TooManyWorkers, TooManyLines}
use Rattle.session.specs.Forms.{IsBuilt, HasFewWorkers, IsWithinLimits}
use Rattle.session.specs.Frame.{Frame, frame_lines, IsFrame, Begins}

-- whole lines, and what stands after the last newline, are those of this frame, which is within the limits
pub record AreFrame (lines : List (List ℕ)) (rest : List ℕ) (frame : Frame) : Type 0 where
  pub limits : IsWithinLimits frame
  pub spelled : lines ≡ frame_lines frame
  pub ended : rest ≡ []

-- Why the last of these lines can't be the next line of a session: from the whole grammar to the forms that
-- are built, and to the limits.
abbrev pub RefusesLine : SessionKind → List (List ℕ) → Type 0
RefusesLine BadSession lines = Begins IsFrame lines → ⊥
RefusesLine NotYet lines = Begins IsFrame lines × (Begins IsBuilt lines → ⊥)
RefusesLine TooManyWorkers lines = Begins IsBuilt lines × (Begins HasFewWorkers lines → ⊥)
RefusesLine TooManyLines lines = Begins HasFewWorkers lines × (Begins IsWithinLimits lines → ⊥)
RefusesLine _ lines = ⊥

-- `good` lines are the beginning of a session, and with the next one, or with the end of the text
-- in its place, they aren't any more
pub record LeavesSession (lines : List (List ℕ)) (rest : List ℕ) (line : ℕ) (kind : SessionKind) : Type 0 where
  pub good : ℕ
  pub place : line ≡ good + 1
  pub begins : Begins IsWithinLimits (take good lines)
  pub within : good ≤ length lines
  pub refused : good < length lines → RefusesLine kind (take (good + 1) lines)
  pub ended : good ≡ length lines → (kind ≡ BadSession) × ((frame : Frame) → AreFrame lines rest frame → ⊥)
