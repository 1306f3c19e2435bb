-- What meets the clauses of a session at their edges, and what breaks one of them.
use Rattle.std.specs.Prelude.{ℕ, zero, suc, ◌≡◌, ◌≢◌, ◌<◌, ◌≤◌, ◌++◌, List, [], ◌∷◌, map, length, replicate, take, codes, All, true, false}
use Rattle.std.proofs.Common.{refl, ap, arith, subst}
use Rattle.std.proofs.lemmas.List.Elements.{All-nil, All-cons, All-head, All-tail}
use Rattle.arrayvec.specs.ArrayString.{ArrayString}
use Rattle.board.specs.declared.board.Board.{Board}
use Rattle.board.specs.declared.rail.Rail.{Rail}
use Rattle.board.specs.declared.rail_id.RailId.{RailId}
use Rattle.board.specs.declared.write.Write.{Write}
use Rattle.board.specs.Lone.{IsLone}
use Rattle.rows.specs.declared.call.Call.{Call}
use Rattle.rows.specs.declared.call.Call.TheVariants.{Open, Set, Get, Enable}
use Rattle.rows.specs.Row.{NamesRail}
use Rattle.plain_board.specs.Untied.{IsBuiltCall}
use Rattle.board_draft.specs.declared.fault.BoardFault.TheVariants.{OneBound}
use Rattle.plain_board.specs.declared.plain.Plain.{Plain}
use Rattle.session.specs.declared.fault.SessionFault.{SessionFault}
use Rattle.session.specs.declared.fault.SessionKind.TheVariants.{TooLong, BadSession, NotYet, Memory}
use Rattle.session.specs.declared.session.Session.{Session}
use Rattle.session.specs.declared.setup.Setup.TheVariants.{Register, Refusal}
use Rattle.session.specs.BoardText.{of_board}
use Rattle.session.specs.Forms.{most_workers, most_lines, AreBuiltLines, IsBuilt, HasFewWorkers, IsWithinLimits}
use Rattle.session.specs.Frame.{IsSetup, Demo, Text, Frame, frame_lines, IsFrame, Begins, HasNoEnd, end_line}
use Rattle.session.specs.Grammar.{AreFrame, LeavesSession}
use Rattle.session.specs.Laws.{SayTheSame}
use Rattle.session.specs.Lines.{lines_of, unended}
use Rattle.session.specs.Script.{IsScript, Uses, call_line}
use Rattle.session.specs.Session.{session_limit, HasFrame, IsSession, IsTooLong, IsBadFrame, ArePlayable}
use Rattle.session.proofs.Frames.{differ_at}
use Rattle.session.proofs.Heads.{first_refused}

the_limits : (session_limit ≡ 4194304) × (most_workers ≡ 16) × (most_lines ≡ 4096)
the_limits = (refl, refl, refl)

-- two whole lines, the second an empty one, and a third that nothing ends
abbrev half_a_line : List ℕ
half_a_line = codes "ab" ++ 10 ∷ 10 ∷ codes "c"

its_lines : (lines_of half_a_line ≡ codes "ab" ∷ [] ∷ []) × (unended half_a_line ≡ codes "c")
its_lines = (refl, refl)

abbrev a : ArrayString
a = record { bytes = codes "a"; spare = [] }

-- setup lines with the greatest numbers, and with one that is too great or too small
greatest_register : IsSetup (Register 4294967295 255 255)
greatest_register = (omega arith, omega arith, omega arith)

great_chip : ¬ IsSetup (Register 4294967296 16 32)
great_chip is = omega (arith, is.0)

great_reg : ¬ IsSetup (Register 0 256 32)
great_reg is = omega (arith, is.1)

great_content : ¬ IsSetup (Register 0 16 256)
great_content is = omega (arith, is.2)

greatest_refusal : IsSetup (Refusal 16 4294967295)
greatest_refusal = (omega arith, omega arith, omega arith)

least_refusal : IsSetup (Refusal 0 1)
least_refusal = (omega arith, omega arith, omega arith)

great_worker : ¬ IsSetup (Refusal 17 1)
great_worker is = omega (arith, is.0)

no_update : ¬ IsSetup (Refusal 1 0)
no_update is = omega (arith, is.1)

great_update : ¬ IsSetup (Refusal 1 4294967296)
great_update is = omega (arith, is.2)

-- a set with the greatest bounds, with one that is too great, and of another handle
greatest_set : Uses (codes "a") (Set a 4294967295 4294967295)
greatest_set = (refl, omega arith, omega arith)

great_lo : ¬ Uses (codes "a") (Set a 4294967296 0)
great_lo uses = omega (arith, uses.1)

great_hi : ¬ Uses (codes "a") (Set a 0 4294967296)
great_hi uses = omega (arith, uses.2)

other_set : ¬ Uses (codes "b") (Set a 0 0)
other_set uses = differ_at 0 (codes "a") (codes "b") refl uses.0

other_get : ¬ Uses (codes "b") (Get a)
other_get uses = differ_at 0 (codes "a") (codes "b") refl uses

-- frames that break one part of the grammar each: an end line within the board, a 17th worker in the setup, an end line within a worker
abbrev ends_within : Frame
ends_within = record { board = Text (codes "a" ∷ codes "%end" ∷ []); setup = []; workers = [] }

abbrev great_setup : Frame
great_setup = record { board = Demo; setup = Refusal 17 1 ∷ []; workers = [] }

abbrev ends_worker : Frame
ends_worker = record { board = Demo; setup = []; workers = [] ∷ (codes "%end" ∷ []) ∷ [] }

not_ends_within : ¬ IsFrame ends_within
not_ends_within is = All-head (λ line. line ≢ end_line) end_line [] (All-tail (λ line. line ≢ end_line) (codes "a") (end_line ∷ []) is.board) refl

not_great_setup : ¬ IsFrame great_setup
not_great_setup is = great_worker (All-head IsSetup (Refusal 17 1) [] is.setup)

not_ends_worker : ¬ IsFrame ends_worker
not_ends_worker is =
    All-head (λ line. line ≢ end_line) end_line [] (All-head HasNoEnd (end_line ∷ []) [] (All-tail HasNoEnd [] ((end_line ∷ []) ∷ []) is.workers)) refl

-- frames that break one part of what is built, or a limit
not_built_grammar : ¬ IsBuilt great_setup
not_built_grammar is = not_great_setup is.grammar

-- on a board of its own the second worker has a line
abbrev calls_on_text : Frame
calls_on_text = record { board = Text []; setup = []; workers = [] ∷ (codes "get a" ∷ []) ∷ [] }

not_built_workers : ¬ IsBuilt calls_on_text
not_built_workers is =
    let lines : codes "get a" ∷ [] ≡ [] = All-head (AreBuiltLines (Text [])) (codes "get a" ∷ []) [] (All-tail (AreBuiltLines (Text [])) [] ((codes "get a" ∷ []) ∷ []) is.workers) in
    cc

not_few_built : ¬ HasFewWorkers great_setup
not_few_built is = not_built_grammar is.built

abbrev workers_without_calls : ℕ → Frame
workers_without_calls n = record { board = Demo; setup = []; workers = replicate n [] }

many_workers : ¬ HasFewWorkers (workers_without_calls 17)
many_workers is = omega (arith, is.few)

few_enough : IsBuilt (workers_without_calls 16) → HasFewWorkers (workers_without_calls 16)
few_enough is = record { built = is; few = omega arith }

not_within_workers : ¬ IsWithinLimits (workers_without_calls 17)
not_within_workers is = many_workers is.workers

-- a worker with so many lines, behind one without
abbrev long_worker : List (List ℕ) → Frame
long_worker lines = record { board = Demo; setup = []; workers = [] ∷ lines ∷ [] }

abbrev IsShort : List (List ℕ) → Type 0
IsShort lines = length lines ≤ most_lines

many_lines : (lines : List (List ℕ)) → length lines ≡ 4097 → ¬ IsWithinLimits (long_worker lines)
many_lines lines count is = let short : IsShort lines = All-head IsShort lines [] (All-tail IsShort [] (lines ∷ []) is.short) in omega (arith, count, short)

short_enough : (lines : List (List ℕ)) → length lines ≡ 4096 → HasFewWorkers (long_worker lines) → IsWithinLimits (long_worker lines)
short_enough lines count is = record { workers = is; short = All-cons IsShort [] (lines ∷ []) (omega arith) (All-cons IsShort lines [] (omega (arith, count)) (All-nil IsShort)) }

-- lines that are those of no frame within the limits, of no frame, or aren't ended
not_frame_limits : (lines : List (List ℕ)) → ¬ AreFrame lines [] (workers_without_calls 17)
not_frame_limits lines are = not_within_workers are.limits

not_frame_lines : (frame : Frame) → ¬ AreFrame [] [] frame
not_frame_lines frame are = let same : [] ≡ frame_lines frame = are.spelled in cc

not_frame_end : (lines : List (List ℕ)) (frame : Frame) → ¬ AreFrame lines (codes "%") frame
not_frame_end lines frame are = let same : codes "%" ≡ [] = are.ended in cc

-- no fault stands at line 0; one at line 2 stands behind a line, which begins a session; and it has a reason
no_place : (lines : List (List ℕ)) → ¬ LeavesSession lines [] 0 BadSession
no_place lines leaves = omega (arith, leaves.place)

to_frame : (lines : List (List ℕ)) → Begins IsWithinLimits lines → Begins IsFrame lines
to_frame lines (frame, is, more, same) = (frame, is.workers.built.grammar, more, same)

no_beginning : ¬ LeavesSession (codes "%worker" ∷ codes "%end" ∷ []) [] 2 BadSession
no_beginning leaves =
    let one : leaves.good ≡ 1 = omega (arith, leaves.place) in
    first_refused (codes "%worker") (λ same. differ_at 1 (codes "%worker") (codes "%session 1") refl same)
    (to_frame (take 1 (codes "%worker" ∷ codes "%end" ∷ [])) (subst (λ n. Begins IsWithinLimits (take n (codes "%worker" ∷ codes "%end" ∷ []))) one leaves.begins))

beyond_the_end : ¬ LeavesSession [] [] 2 BadSession
beyond_the_end leaves = omega (arith, leaves.place, leaves.within)

no_reason : ¬ LeavesSession (codes "%session 1" ∷ []) [] 1 Memory
no_reason leaves = leaves.refused (omega (arith, leaves.place))

no_reason_at_the_end : ¬ LeavesSession [] [] 1 NotYet
no_reason_at_the_end leaves = let same : NotYet ≡ BadSession = (leaves.ended (omega (arith, leaves.place))).0 in cc

-- a text of exactly so many bytes is short enough, for a session and for a fault within it; with one byte more it is too long
module _ (bytes : List ℕ) where
  has_frame_at_limit : (frame : Frame) → length bytes ≡ 4194304 → AreFrame (lines_of bytes) (unended bytes) frame → HasFrame bytes frame
  has_frame_at_limit frame count are = record { short = omega (arith, count); lines = are }

  has_no_frame : (frame : Frame) → length bytes ≡ 4194305 → ¬ HasFrame bytes frame
  has_no_frame frame count has = omega (arith, count, has.short)

  bad_at_limit : (fault : SessionFault) → length bytes ≡ 4194304 → LeavesSession (lines_of bytes) (unended bytes) fault.line fault.kind → IsBadFrame bytes fault
  bad_at_limit fault count leaves = record { short = omega (arith, count); leaves = leaves }

  not_bad_beyond : (fault : SessionFault) → length bytes ≡ 4194305 → ¬ IsBadFrame bytes fault
  not_bad_beyond fault count bad = omega (arith, count, bad.short)

  too_long : length bytes ≡ 4194305 → IsTooLong bytes (record { line = 0; kind = TooLong })
  too_long count = record { long = omega (arith, count); is = refl }

  not_too_long : (fault : SessionFault) → length bytes ≡ 4194304 → ¬ IsTooLong bytes fault
  not_too_long fault count long = omega (arith, count, long.long)

  not_at_a_line : ¬ IsTooLong bytes (record { line = 1; kind = TooLong })
  not_at_a_line long = let line : 1 ≡ 0 = ap (λ (f : SessionFault). f.line) long.is in omega (arith, line)

  -- a session's handle is opened before it is read
  read_before_opened : (session : Session) → session.scripts ≡ [] ∷ (Get a ∷ []) ∷ [] → ¬ IsSession bytes session
  read_before_opened session scripts is =
      All-head IsScript (Get a ∷ []) [] (All-tail IsScript [] ((Get a ∷ []) ∷ []) (subst (All IsScript) scripts is.calls))

at_the_board : (of_board (OneBound 3)).line ≡ 2
at_the_board = refl

-- two sessions that differ in one thing alone say something else
module _ (session : Session) where
  other_refusals : ¬ SayTheSame (record session { refusals = (1, 1) ∷ [] }) (record session { refusals = [] })
  other_refusals same = let refusals : ◌≡◌ {A = List (ℕ × ℕ)} ((1, 1) ∷ []) [] = same.refusals in cc

  other_scripts : ¬ SayTheSame (record session { scripts = [] ∷ [] }) (record session { scripts = [] })
  other_scripts same = let scripts : map (map call_line) ([] ∷ []) ≡ [] = same.scripts in cc

  other_writes : ¬ SayTheSame (record session { loaded = record session.loaded { writes = record { chip = 0; reg = 16; mask = 127; bits = 32 } ∷ [] } }) (record session { loaded = record session.loaded { writes = [] } })
  other_writes same = let writes : ◌≡◌ {A = List Write} (record { chip = 0; reg = 16; mask = 127; bits = 32 } ∷ []) [] = same.writes in cc

  other_boards : ¬ SayTheSame (record session { loaded = record session.loaded { board = record session.loaded.board { chips = 1 } } }) (record session { loaded = record session.loaded { board = record session.loaded.board { chips = 2 } } })
  other_boards same = let chips : 1 ≡ 2 = ap (λ (board : Board). board.chips) same.boards in omega (arith, chips)

  other_plain : ¬ SayTheSame (record session { loaded = record session.loaded { plain = record session.loaded.plain { suspended = true } } }) (record session { loaded = record session.loaded { plain = record session.loaded.plain { suspended = false } } })
  other_plain same = let suspended : true ≡ false = ap (λ (plain : Plain). plain.suspended) same.plain in cc

-- sixteen scripts, and one of 4096 calls, can be played; one more can't
all_empty : (P : List Call → Type 0) (n : ℕ) → P [] → All P (replicate n [])
all_empty P zero here = All-nil P
all_empty P (suc n) here = All-cons P [] (replicate n []) here (all_empty P n here)

module _ (board : Board) where
  abbrev IsFew : List Call → Type 0
  IsFew script = length script ≤ most_lines

  abbrev OnLone : List Call → Type 0
  OnLone script = script ≢ [] → IsLone board

  sixteen_scripts : ArePlayable board (replicate 16 [])
  sixteen_scripts = record {
    few = omega arith;
    short = all_empty IsFew 16 (omega arith);
    calls = all_empty (All IsBuiltCall) 16 (All-nil IsBuiltCall);
    rails = all_empty (All (NamesRail board)) 16 (All-nil (NamesRail board));
    lone = all_empty OnLone 16 (λ some. absurd (some refl));
  }

  seventeen_scripts : ¬ ArePlayable board (replicate 17 [])
  seventeen_scripts are = omega (arith, are.few)

  many_calls : (script : List Call) → length script ≡ 4096 → All IsBuiltCall script → All (NamesRail board) script → IsLone board → ArePlayable board (script ∷ [])
  many_calls script count built named lone = record {
    few = omega arith;
    short = All-cons IsFew script [] (omega (arith, count)) (All-nil IsFew);
    calls = All-cons (All IsBuiltCall) script [] built (All-nil (All IsBuiltCall));
    rails = All-cons (All (NamesRail board)) script [] named (All-nil (All (NamesRail board)));
    lone = All-cons OnLone script [] (λ some. lone) (All-nil OnLone);
  }

  too_many_calls : (script : List Call) → length script ≡ 4097 → ¬ ArePlayable board (script ∷ [])
  too_many_calls script count are = let few : IsFew script = All-head IsFew script [] are.short in omega (arith, count, few)

  not_built_call : ¬ ArePlayable board ((Enable a ∷ []) ∷ [])
  not_built_call are = All-head IsBuiltCall (Enable a) [] (All-head (All IsBuiltCall) (Enable a ∷ []) [] are.calls)

-- a call on a board without rails, or with two
module _ (board : Board) (rail : Rail) where
  abbrev opens : RailId → List (List Call)
  opens id = (Open a id false ∷ []) ∷ []

  no_rail : ¬ ArePlayable (record board { rails = rail ∷ rail ∷ [] }) (opens (record { 0 = 2 }))
  no_rail are = let two = record board { rails = rail ∷ rail ∷ [] } in
      let named : 2 < 2 = All-head (NamesRail two) (Open a (record { 0 = 2 }) false) [] (All-head (All (NamesRail two)) (Open a (record { 0 = 2 }) false ∷ []) [] are.rails) in
      omega (arith, named)

  not_lone : ¬ ArePlayable (record board { rails = rail ∷ rail ∷ [] }) (opens (record { 0 = 0 }))
  not_lone are =
      let two = record board { rails = rail ∷ rail ∷ [] } in
      let lone : IsLone two = All-head (λ script. script ≢ [] → IsLone two) (Open a (record { 0 = 0 }) false ∷ []) [] are.lone (λ same. cc) in
      let same : rail ∷ rail ∷ [] ≡ lone.rail ∷ [] = lone.rails in
      cc
