-- How what was read begins a session.
use Rattle.std.proofs.Common.{ℕ, ◌≡◌, ◌≤◌, List, [], ◌∷◌, ◌++◌, map, length, All, sym, refl, ap, ◌∙◌, arith, append_assoc}
use Rattle.std.specs.List.{flat_map}
use Rattle.std.proofs.lemmas.Grind.{flat_map-append}
use Rattle.std.proofs.lemmas.List.{append-nil, map-append, length-map}
use Rattle.std.proofs.lemmas.List.Elements.{All-nil, All-cons, All-head, All-tail, All-append}
use Rattle.rows.specs.declared.call.Call.{Call}
use Rattle.session.specs.declared.setup.Setup.{Setup}
use Rattle.session.specs.Forms.{AreBuiltLines, IsBuilt, HasFewWorkers, IsWithinLimits, most_workers, most_lines}
use Rattle.session.specs.Frame.{setup_text, IsSetup, BoardPart, Demo, Text, Frame, IsFrame, Begins, end_line, worker_lines, HasNoEnd, IsBoardPart}
use Rattle.session.specs.Script.{IsScript, call_line}
use Rattle.session.specs.Inside.Progress.{Fits, before_setup, calls_of, worker_line, done_line}
use Rattle.session.proofs.Frames.{HasNoEnd-calls, worker-assoc}
use Rattle.session.proofs.Places.{lines_to, to-more}

-- the grammars lie in one another
pub frame_from_built : (frame : Frame) → IsBuilt frame → IsFrame frame
frame_from_built frame built = built.grammar

pub built_from_few : (frame : Frame) → HasFewWorkers frame → IsBuilt frame
built_from_few frame few = few.built

pub few_from_within : (frame : Frame) → IsWithinLimits frame → HasFewWorkers frame
few_from_within frame within = within.workers

-- a beginning of a smaller grammar is one of a larger
pub begins_larger : (P Q : Frame → Type 0) → ((frame : Frame) → P frame → Q frame) → (lines : List (List ℕ)) → Begins P lines → Begins Q lines
begins_larger P Q larger lines (frame, good, more, same) = (frame, larger frame good, more, same)

-- a part of a beginning is one
pub begins_part : (P : Frame → Type 0) (lines rest : List (List ℕ)) → Begins P (lines ++ rest) → Begins P lines
begins_part P lines rest (frame, good, more, same) = (frame, good, rest ++ more, same ∙ append_assoc lines rest more)

-- scripts that fit a board are built, and no line of theirs ends them
pub Fits-script : (board : BoardPart) (script : List Call) → Fits board script → IsScript script
Fits-script Demo script fits = fits
Fits-script (Text lines) script none = rw none tt

pub Fits-built : (board : BoardPart) (script : List Call) → Fits board script → AreBuiltLines board (map call_line script)
Fits-built Demo script fits = (script, fits, refl)
Fits-built (Text lines) script none = ap (map call_line) none

pub Fits-none : (board : BoardPart) → Fits board []
Fits-none Demo = tt
Fits-none (Text lines) = refl

pub All-script : (board : BoardPart) (scripts : List (List Call)) → All (Fits board) scripts → All IsScript scripts
All-script board [] fit = All-nil IsScript
All-script board (s ∷ scripts) fit =
    All-cons IsScript s scripts (Fits-script board s (All-head (Fits board) s scripts fit)) (All-script board scripts (All-tail (Fits board) s scripts fit))

All-built : (board : BoardPart) (scripts : List (List Call)) → All (Fits board) scripts → All (AreBuiltLines board) (calls_of scripts)
All-built board [] fit = All-nil (AreBuiltLines board)
All-built board (s ∷ scripts) fit =
    All-cons (AreBuiltLines board) (map call_line s) (calls_of scripts) (Fits-built board s (All-head (Fits board) s scripts fit)) (All-built board scripts (All-tail (Fits board) s scripts fit))

pub All-no_end : (scripts : List (List Call)) → All HasNoEnd (calls_of scripts)
All-no_end [] = All-nil HasNoEnd
All-no_end (s ∷ scripts) = All-cons HasNoEnd (map call_line s) (calls_of scripts) (HasNoEnd-calls s) (All-no_end scripts)

abbrev pub IsShort : List Call → Type 0
IsShort script = length script ≤ most_lines

All-short : (scripts : List (List Call)) → All IsShort scripts → All (λ lines. length lines ≤ most_lines) (calls_of scripts)
All-short [] short = All-nil (λ lines. length lines ≤ most_lines)
All-short (s ∷ scripts) short =
    All-cons (λ lines. length lines ≤ most_lines) (map call_line s) (calls_of scripts) (let here : length s ≤ most_lines = All-head IsShort s scripts short in omega (arith, here, length-map s call_line)) (All-short scripts (All-tail IsShort s scripts short))

pub calls_of-more : (scripts : List (List Call)) (script : List Call) → calls_of (scripts ++ script ∷ []) ≡ calls_of scripts ++ map call_line script ∷ []
calls_of-more scripts script = map-append (map call_line) scripts (script ∷ [])

-- what all and one more have
pub All-more : {X : Type 0} (P : X → Type 0) (xs : List X) (x : X) → All P xs → P x → All P (xs ++ x ∷ [])
All-more P xs x all here = All-append P xs (x ∷ []) all (All-cons P x [] here (All-nil P))

module _ (board : BoardPart) (setup : List Setup) where
  abbrev pub with_workers : List (List (List ℕ)) → Frame
  with_workers workers = record { board = board; setup = setup; workers = workers }

  module _ (is_board : IsBoardPart board) (is_setup : All IsSetup setup) where
    pub frame_with : (workers : List (List (List ℕ))) → All HasNoEnd workers → IsFrame (with_workers workers)
    frame_with workers ends = record { board = is_board; setup = is_setup; workers = ends }

    pub built_with : (scripts : List (List Call)) → All (Fits board) scripts → IsBuilt (with_workers (calls_of scripts))
    built_with scripts fit = record {
      grammar = frame_with (calls_of scripts) (All-no_end scripts);
      workers = All-built board scripts fit;
    }

    pub few_with : (scripts : List (List Call)) → All (Fits board) scripts → length scripts ≤ most_workers → HasFewWorkers (with_workers (calls_of scripts))
    few_with scripts fit few = record {
      built = built_with scripts fit;
      few = omega (arith, few, length-map scripts (map call_line));
    }

    pub within_with : (scripts : List (List Call)) → All (Fits board) scripts → length scripts ≤ most_workers → All IsShort scripts → IsWithinLimits (with_workers (calls_of scripts))
    within_with scripts fit few short = record {
      workers = few_with scripts fit few;
      short = All-short scripts short;
    }

  module _ (P : Frame → Type 0) (known : List (List (List ℕ))) where
    -- outside of a worker
    pub outside_begins : P (with_workers known) → Begins P (lines_to board setup known [])
    outside_begins good = (with_workers known, good, done_line ∷ [], sym (to-more board setup known [] (done_line ∷ [])))

    -- to the end
    pub done_begins : P (with_workers known) → Begins P (lines_to board setup known (done_line ∷ []))
    done_begins good = (with_workers known, good, [], sym (append-nil (lines_to board setup known (done_line ∷ []))))

    one_more : (calls : List (List ℕ)) → flat_map worker_lines (known ++ calls ∷ []) ++ done_line ∷ [] ≡ flat_map worker_lines known ++ worker_line ∷ (calls ++ end_line ∷ done_line ∷ [])
    one_more calls =
        ap (λ x. x ++ done_line ∷ []) (flat_map-append worker_lines known (calls ∷ [])) ∙ append_assoc (flat_map worker_lines known) (worker_lines calls ++ []) (done_line ∷ []) ∙ ap (λ x. flat_map worker_lines known ++ x) (worker-assoc calls [] (done_line ∷ []))

    -- inside of a worker
    pub worker_begins : (calls : List (List ℕ)) → P (with_workers (known ++ calls ∷ [])) → Begins P (lines_to board setup known (worker_line ∷ calls))
    worker_begins calls good =
        (with_workers (known ++ calls ∷ []), good, end_line ∷ done_line ∷ [], ap (λ x. before_setup board ++ (map setup_text setup ++ x)) (one_more calls) ∙ sym (to-more board setup known (worker_line ∷ calls) (end_line ∷ done_line ∷ [])))
