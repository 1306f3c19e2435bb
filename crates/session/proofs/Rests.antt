-- What stands behind the board of a session, as far as it was read.
use Rattle.std.proofs.Common.{ℕ, ◌≡◌, ◌≢◌, ◌+◌, ◌<◌, Bool, true, false, List, [], ◌∷◌, ◌++◌, map, length, sym, refl, ap, ◌∙◌, subst, arith, append_assoc, length-append}
use Rattle.std.proofs.lemmas.List.{append-nil, length-map}
use Rattle.std.proofs.lemmas.List.Elements.{All-nil}
use Rattle.session.specs.declared.fault.SessionKind.{SessionKind}
use Rattle.session.specs.declared.fault.SessionKind.TheVariants.{BadSession}
use Rattle.session.specs.declared.progress.Progress.{Progress}
use Rattle.session.specs.declared.progress.Stage.{Stage}
use Rattle.session.specs.declared.progress.Stage.TheVariants.{Setup as BeforeWorkers, Worker, Between, Done}
use Rattle.session.specs.Forms.{IsWithinLimits}
use Rattle.session.specs.Frame.{IsSetup, BoardPart, Demo, Text, Frame, Begins, end_line, IsBoardPart}
use Rattle.session.specs.Grammar.{AreFrame, LeavesSession, RefusesLine}
use Rattle.session.specs.Lines.{lines_of, unended}
use Rattle.session.specs.Script.{call_line}
use Rattle.session.specs.Inside.Frames.{IsRestRead}
use Rattle.session.specs.Inside.Progress.{is_demo, Fits, before_setup, begun, calls_of, IsAt, IsBeginning, IsBehind, IsSound, lines_read, Reads}
use Rattle.session.proofs.Beginnings.{Fits-none, All-no_end, All-more, All-script, IsShort, calls_of-more, with_workers, within_with, outside_begins, done_begins, worker_begins}
use Rattle.session.proofs.Frames.{HasNoEnd-calls}
use Rattle.session.proofs.Leaves.{lines_is, unended_is, leaves_here, leaves_last}
use Rattle.session.proofs.LineLaws.{lines_none, text_empty}
use Rattle.session.proofs.Places.{lines_to}
use Rattle.session.proofs.Refused.{board_ends, between_ends, worker_unended}
use Rattle.rows.proofs.Separators.{Lacks}

abbrev pub at_first : Bool → Progress
at_first demo = record { stage = BeforeWorkers; demo = demo; setup = []; scripts = []; script = [] }

pub first_sound : (board : BoardPart) (demo : Bool) → IsBoardPart board → is_demo board ≡ demo → IsSound board (at_first demo)
first_sound board demo is same = record {
  is_board = is;
  same = same;
  setup = All-nil IsSetup;
  scripts = All-nil (Fits board);
  script = Fits-none board;
  few = omega arith;
  short = All-nil IsShort;
  room = omega arith;
  stage = (refl, refl);
}

pub first_beginning : (demo : Bool) → IsBeginning (at_first demo)
first_beginning true = (Demo, first_sound Demo true tt refl)
first_beginning false = (Text [], first_sound (Text []) false (All-nil (λ line. line ≢ end_line)) refl)

-- what was read is the beginning of a session
pub sound_begins : (board : BoardPart) (p : Progress) (stage : Stage) → IsSound board p → p.stage ≡ stage → Begins IsWithinLimits (lines_to board p.setup (calls_of p.scripts) (begun stage p.script))
sound_begins board p Worker sound is =
    let room : length p.scripts < 16 = subst (λ s. IsAt s p.scripts p.script) is sound.stage in
    let within : IsWithinLimits (with_workers board p.setup (calls_of (p.scripts ++ p.script ∷ []))) = within_with board p.setup sound.is_board sound.setup (p.scripts ++ p.script ∷ []) (All-more (Fits board) p.scripts p.script sound.scripts sound.script) (omega (arith, room, length-append p.scripts (p.script ∷ []))) (All-more IsShort p.scripts p.script sound.short sound.room) in
    worker_begins board p.setup IsWithinLimits (calls_of p.scripts) (map call_line p.script) (subst (λ ws. IsWithinLimits (with_workers board p.setup ws)) (calls_of-more p.scripts p.script) within)
sound_begins board p Done sound is =
    done_begins board p.setup IsWithinLimits (calls_of p.scripts) (within_with board p.setup sound.is_board sound.setup p.scripts sound.scripts sound.few sound.short)
sound_begins board p BeforeWorkers sound is =
    outside_begins board p.setup IsWithinLimits (calls_of p.scripts) (within_with board p.setup sound.is_board sound.setup p.scripts sound.scripts sound.few sound.short)
sound_begins board p Between sound is =
    outside_begins board p.setup IsWithinLimits (calls_of p.scripts) (within_with board p.setup sound.is_board sound.setup p.scripts sound.scripts sound.few sound.short)

-- and no whole one before its last line
pub unended_at : (board : BoardPart) (p : Progress) (stage : Stage) → IsSound board p → p.stage ≡ stage → stage ≢ Done → (tail : List ℕ) (frame : Frame) → AreFrame (lines_to board p.setup (calls_of p.scripts) (begun stage p.script)) tail frame → ⊥
unended_at board p BeforeWorkers sound is other tail frame are =
    let at : IsAt BeforeWorkers p.scripts p.script = subst (λ s. IsAt s p.scripts p.script) is sound.stage in
    board_ends board p.setup (calls_of p.scripts) sound.is_board sound.setup (All-no_end p.scripts) (ap calls_of at.0) tail frame are
unended_at board p Worker sound is other tail frame are =
    worker_unended board p.setup (calls_of p.scripts) sound.is_board sound.setup (All-no_end p.scripts) (map call_line p.script) (HasNoEnd-calls p.script) tail frame are
unended_at board p Between sound is other tail frame are =
    let at : IsAt Between p.scripts p.script = subst (λ s. IsAt s p.scripts p.script) is sound.stage in
    between_ends board p.setup (calls_of p.scripts) sound.is_board sound.setup (All-no_end p.scripts) (omega (arith, at.0, length-map p.scripts (map call_line))) tail frame are
unended_at board p Done sound is other tail frame are = other refl

-- these lines were read of it
pub record RestSoFar (board : BoardPart) (text : List ℕ) (p : Progress) (rest : List ℕ) (number : ℕ) : Type 0 where
  pub sound : IsSound board p
  pub before : before_setup board ++ lines_of text ≡ lines_read board p ++ lines_of rest
  pub ended : unended text ≡ unended rest
  pub place : number ≡ length (lines_read board p) + 1

pub rest_begun : (board : BoardPart) (demo : Bool) (first : ℕ) (text : List ℕ) → IsBehind board demo first → RestSoFar board text (at_first demo) text first
rest_begun board demo first text behind = record {
  sound = first_sound board demo behind.is_board behind.same;
  before = ap (λ x. x ++ lines_of text) (sym (append-nil (before_setup board)));
  ended = refl;
  place = behind.place ∙ ap (λ x. length x + 1) (sym (append-nil (before_setup board)));
}

module _ (board : BoardPart) (text : List ℕ) (p : Progress) (rest : List ℕ) (number : ℕ) (read : RestSoFar board text p rest number) where
  -- one line more
  pub rest_next : (line more : List ℕ) (q : Progress) → rest ≡ line ++ 10 ∷ more → Lacks 10 line → Reads board p line q → RestSoFar board text q more (number + 1)
  rest_next line more q cut whole reads = record {
    sound = reads.sound;
    before = read.before ∙ ap (λ ls. lines_read board p ++ ls) (lines_is rest line more cut whole) ∙ sym (append_assoc (lines_read board p) (line ∷ []) (lines_of more)) ∙ ap (λ ls. ls ++ lines_of more) (sym reads.lines);
    ended = read.ended ∙ unended_is rest line more cut whole;
    place = omega (arith, read.place, ap length reads.lines, length-append (lines_read board p) (line ∷ []));
  }

  -- a line that can't follow
  pub rest_here : (line more : List ℕ) (kind : SessionKind) → rest ≡ line ++ 10 ∷ more → Lacks 10 line → RefusesLine kind (lines_read board p ++ line ∷ []) → LeavesSession (before_setup board ++ lines_of text) (unended text) number kind
  rest_here line more kind cut whole refused =
      leaves_here rest line more cut whole (before_setup board ++ lines_of text) (lines_read board p) (unended text) kind number read.before (sound_begins board p p.stage read.sound refl) refused read.place

  ended_before : (tail : List ℕ) → p.stage ≢ Done → (frame : Frame) → AreFrame (lines_read board p) tail frame → ⊥
  ended_before tail other frame are = unended_at board p p.stage read.sound refl other tail frame are

  -- the end of the text, before the last line
  pub rest_last : Lacks 10 rest → p.stage ≢ Done → LeavesSession (before_setup board ++ lines_of text) (unended text) number BadSession
  rest_last lacks other =
      leaves_last rest lacks (before_setup board ++ lines_of text) (lines_read board p) (unended text) number read.before (sound_begins board p p.stage read.sound refl) (ended_before (unended text) other) read.place

  -- something behind the last line
  pub rest_more : Lacks 10 rest → rest ≢ [] → LeavesSession (before_setup board ++ lines_of text) (unended text) number BadSession
  rest_more lacks some =
      leaves_last rest lacks (before_setup board ++ lines_of text) (lines_read board p) (unended text) number read.before (sound_begins board p p.stage read.sound refl) (λ frame are. some (text_empty rest (lines_none rest lacks) (sym read.ended ∙ are.ended))) read.place

  -- the session
  pub rest_done : rest ≡ [] → p.stage ≡ Done → IsRestRead board text p
  rest_done empty is = record {
    frame = record {
      limits = within_with board p.setup read.sound.is_board read.sound.setup p.scripts read.sound.scripts read.sound.few read.sound.short;
      spelled = read.before ∙ ap (λ r. lines_read board p ++ lines_of r) empty ∙ append-nil (lines_read board p) ∙ ap (λ s. lines_to board p.setup (calls_of p.scripts) (begun s p.script)) is;
      ended = read.ended ∙ ap unended empty;
    };
    calls = All-script board p.scripts read.sound.scripts;
  }
