-- Sessions worked out by hand, and texts that are none.
use Rattle.std.specs.Prelude.{ℕ, zero, suc, ◌≢◌, ◌+◌, ◌<◌, ◌≤◌, true, false, List, [], ◌∷◌, ◌++◌, length, replicate, codes, All}
use Rattle.std.specs.Fmt.{digits}
use Rattle.std.proofs.Common.{refl, arith}
use Rattle.std.proofs.lemmas.List.Elements.{All-nil, All-cons}
use Rattle.arrayvec.specs.ArrayString.{ArrayString}
use Rattle.rows.specs.declared.call.Call.{Call}
use Rattle.rows.specs.declared.call.Call.TheVariants.{Open, Set, Get}
use Rattle.session.specs.declared.fault.SessionKind.{SessionKind}
use Rattle.session.specs.declared.fault.SessionKind.TheVariants.{BadSession, NotYet, TooManyWorkers}
use Rattle.session.specs.declared.progress.Progress.{Progress}
use Rattle.session.specs.declared.progress.Stage.TheVariants.{Worker, Between, Done}
use Rattle.session.specs.declared.setup.Setup.{Setup}
use Rattle.session.specs.declared.setup.Setup.TheVariants.{Register, Refusal}
use Rattle.session.specs.Frame.{IsSetup, BoardPart, Demo, Text, end_line, HasNoEnd}
use Rattle.session.specs.Grammar.{AreFrame, LeavesSession, RefusesLine}
use Rattle.session.specs.Script.{IsScript, Uses}
use Rattle.session.specs.Inside.Progress.{Fits, done_line, IsSound, lines_read, worker_line}
use Rattle.session.proofs.Beginnings.{IsShort, within_with}
use Rattle.session.proofs.Frames.{differ_at}
use Rattle.session.proofs.Leaves.{leaves_at, leaves_end}
use Rattle.session.proofs.Rests.{sound_begins, unended_at}
use Rattle.session.proofs.Stages.{between_bad, call_unbuilt_text, done_bad, worker_too_many}

abbrev a : ArrayString
a = record { bytes = codes "a"; spare = [] }

abbrev calls : List Call
calls = Open a (record { 0 = 0 }) false ∷ Set a 800000 900000 ∷ Get a ∷ []

are_script : IsScript calls
are_script =
    ((refl, refl, omega arith), refl, refl, All-cons (Uses (codes "a")) (Set a 800000 900000) (Get a ∷ []) (refl, omega arith, omega arith) (All-cons (Uses (codes "a")) (Get a) [] refl (All-nil (Uses (codes "a")))))

-- two workers on the built-in board, the second without a call, with a register and a refused update
abbrev setup : List Setup
setup = Register 0 16 32 ∷ Refusal 1 2 ∷ []

are_setup : All IsSetup setup
are_setup =
    All-cons IsSetup (Register 0 16 32) (Refusal 1 2 ∷ []) (omega arith, omega arith, omega arith) (All-cons IsSetup (Refusal 1 2) [] (omega arith, omega arith, omega arith) (All-nil IsSetup))

two_workers : AreFrame
    (codes "%session 1" ∷ codes "%board demo" ∷ codes "%reg 0 0x10 0x20" ∷ codes "%fault 1 2" ∷ codes "%worker" ∷ codes "open a core" ∷ codes "set a 800000 900000" ∷ codes "get a" ∷ codes "%end" ∷ codes "%worker" ∷ codes "%end" ∷ codes "%done" ∷ [])
    []
    (record { board = Demo; setup = setup; workers = (codes "open a core" ∷ codes "set a 800000 900000" ∷ codes "get a" ∷ []) ∷ [] ∷ [] })
unfolding digits
two_workers = record {
  limits = within_with Demo setup tt are_setup (calls ∷ [] ∷ []) (All-cons (Fits Demo) calls ([] ∷ []) are_script (All-cons (Fits Demo) [] [] tt (All-nil (Fits Demo)))) (omega arith) (All-cons IsShort calls ([] ∷ []) (omega arith) (All-cons IsShort [] [] (omega arith) (All-nil IsShort)));
  spelled = refl;
  ended = refl;
}

-- a board of its own, with a worker that calls nothing; a keyword but `%end` is a line of its text
text_board : AreFrame
    (codes "%session 1" ∷ codes "%board dts" ∷ codes "/dts-v1/;" ∷ codes "%worker" ∷ codes "%end" ∷ codes "%worker" ∷ codes "%end" ∷ codes "%done" ∷ [])
    []
    (record { board = Text (codes "/dts-v1/;" ∷ codes "%worker" ∷ []); setup = []; workers = [] ∷ [] })
text_board =
    let text = codes "/dts-v1/;" ∷ codes "%worker" ∷ [] in
    let no_end : HasNoEnd text = All-cons (λ line. line ≢ end_line) (codes "/dts-v1/;") (codes "%worker" ∷ []) (λ same. differ_at 0 (codes "/dts-v1/;") end_line refl same) (All-cons (λ line. line ≢ end_line) (codes "%worker") [] (λ same. differ_at 1 (codes "%worker") end_line refl same) (All-nil (λ line. line ≢ end_line))) in
    record {
      limits = within_with (Text text) [] no_end (All-nil IsSetup) ([] ∷ []) (All-cons (Fits (Text text)) [] [] refl (All-nil (Fits (Text text)))) (omega arith) (All-cons IsShort [] [] (omega arith) (All-nil IsShort));
      spelled = refl;
      ended = refl;
    }

-- a text that goes as far as this, and no further
module _ (board : BoardPart) (p : Progress) (sound : IsSound board p) where
  stuck_at : (line : List ℕ) (rest : List (List ℕ)) (kind : SessionKind) → RefusesLine kind (lines_read board p ++ line ∷ []) → LeavesSession (lines_read board p ++ line ∷ rest) [] (length (lines_read board p) + 1) kind
  stuck_at line rest kind refused =
      leaves_at (lines_read board p) rest line [] kind (length (lines_read board p) + 1) (sound_begins board p p.stage sound refl) refused refl

  stuck_behind : (tail : List ℕ) → p.stage ≢ Done → LeavesSession (lines_read board p) tail (length (lines_read board p) + 1) BadSession
  stuck_behind tail other =
      leaves_end (lines_read board p) tail (length (lines_read board p) + 1) (sound_begins board p p.stage sound refl) (unended_at board p p.stage sound refl other tail) refl

abbrev empty_scripts : ℕ → List (List Call)
empty_scripts n = replicate n []

all_empty : (P : List Call → Type 0) (n : ℕ) → P [] → All P (empty_scripts n)
all_empty P zero here = All-nil P
all_empty P (suc n) here = All-cons P [] (empty_scripts n) here (all_empty P n here)

-- so many workers without a call on the built-in board
abbrev behind_workers : ℕ → Progress
behind_workers n = record { stage = Between; demo = true; setup = []; scripts = empty_scripts n; script = [] }

behind_sound : (n : ℕ) → 0 < length (empty_scripts n) → length (empty_scripts n) ≤ 16 → IsSound Demo (behind_workers n)
behind_sound n some few = record {
  is_board = tt;
  same = refl;
  setup = All-nil IsSetup;
  scripts = all_empty (Fits Demo) n tt;
  script = tt;
  few = few;
  short = all_empty IsShort n (omega arith);
  room = omega arith;
  stage = (some, refl);
}

-- a setup line behind a worker
setup_late : LeavesSession (codes "%session 1" ∷ codes "%board demo" ∷ codes "%worker" ∷ codes "%end" ∷ codes "%fault 1 1" ∷ codes "%done" ∷ []) [] 5 BadSession
setup_late =
    let sound = behind_sound 1 (omega arith) (omega arith) in
    stuck_at Demo (behind_workers 1) sound (codes "%fault 1 1") (codes "%done" ∷ []) BadSession (between_bad Demo (behind_workers 1) sound refl (codes "%fault 1 1") (λ same. differ_at 1 (codes "%fault 1 1") worker_line refl same) (λ same. differ_at 1 (codes "%fault 1 1") done_line refl same))

-- the last line without its newline
no_newline : LeavesSession (codes "%session 1" ∷ codes "%board demo" ∷ codes "%worker" ∷ codes "%end" ∷ []) (codes "%done") 5 BadSession
no_newline = stuck_behind Demo (behind_workers 1) (behind_sound 1 (omega arith) (omega arith)) (codes "%done") (λ same. cc)

-- the 17th worker, behind the 34 lines of head, board and sixteen workers
many_workers : LeavesSession (lines_read Demo (behind_workers 16) ++ codes "%worker" ∷ []) [] 35 TooManyWorkers
many_workers =
    let sound = behind_sound 16 (omega arith) (omega arith) in
    stuck_at Demo (behind_workers 16) sound (codes "%worker") [] TooManyWorkers (worker_too_many Demo (behind_workers 16) sound tt refl)

-- a call on a board of its own
abbrev in_worker : Progress
in_worker = record { stage = Worker; demo = false; setup = []; scripts = []; script = [] }

call_early : LeavesSession (codes "%session 1" ∷ codes "%board dts" ∷ codes "%end" ∷ codes "%worker" ∷ codes "open a core" ∷ codes "%end" ∷ codes "%done" ∷ []) [] 5 NotYet
call_early =
    let sound : IsSound (Text []) in_worker = record { is_board = All-nil (λ line. line ≢ end_line); same = refl; setup = All-nil IsSetup; scripts = All-nil (Fits (Text [])); script = refl; few = omega arith; short = All-nil IsShort; room = omega arith; stage = omega arith } in
    stuck_at (Text []) in_worker sound (codes "open a core") (codes "%end" ∷ codes "%done" ∷ []) NotYet (call_unbuilt_text (Text []) in_worker sound refl (codes "open a core") (λ same. differ_at 0 (codes "open a core") end_line refl same) refl)

-- a line behind the end
abbrev at_end : Progress
at_end = record { stage = Done; demo = true; setup = []; scripts = []; script = [] }

line_behind : LeavesSession (codes "%session 1" ∷ codes "%board demo" ∷ codes "%done" ∷ codes "%done" ∷ []) [] 4 BadSession
line_behind =
    let sound : IsSound Demo at_end = record { is_board = tt; same = refl; setup = All-nil IsSetup; scripts = All-nil (Fits Demo); script = tt; few = omega arith; short = All-nil IsShort; room = omega arith; stage = refl } in
    stuck_at Demo at_end sound (codes "%done") [] BadSession (done_bad Demo at_end sound refl (codes "%done"))
