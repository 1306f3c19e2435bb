-- Replies to a text, and runs of the program: what breaks each clause alone.
use Rattle.std.specs.Prelude.{◌≡◌, ◌≢◌, ◌==◌, ◌⊎◌, ℕ, List, [], ◌∷◌, ◌++◌, length, codes, Option, Some, None, if◌then◌else◌, slice_get}
use Rattle.std.proofs.Common.{refl, sym, ap, ◌∙◌, arith, length-append}
use Rattle.std.proofs.Math.Logic.{⊎_elim}
use Rattle.reg_outside.specs.Told.{with_before}
use Rattle.board.specs.declared.write.Write.{Write}
use Rattle.plain_board.specs.Inv.{Inv}
use Rattle.plain_board.specs.Stops.{is_planned}
use Rattle.rows.specs.declared.row.Row.{Row}
use Rattle.session.specs.declared.fault.SessionFault.{SessionFault}
use Rattle.session.specs.declared.fault.SessionKind.TheVariants.{Memory as no_memory}
use Rattle.session.specs.declared.session.Session.{Session}
use Rattle.session.specs.Session.{IsSession, FirstFault}
use Rattle.session.specs.Text.{refusal_text}
use Rattle.regulator_main.specs.declared.status.Status.{Status}
use Rattle.regulator_main.specs.declared.status.Status.TheVariants.{Done, Memory, Words, ReadFault, SessionRefused, LoadFault}
use Rattle.regulator_main.specs.declared.words.Command.{Command}
use Rattle.regulator_main.specs.declared.words.Command.TheVariants.{Check}
use Rattle.regulator_main.specs.Bringing.{planned_stop}
use Rattle.regulator_main.specs.Front.{Answers, WantsMemory, CantRead, CommandGoes, IsNoCommand, IsCommand, IsGiven, AnswersSessions, IsRun}
use Rattle.regulator_main.specs.Input.{TookAtMost}
use Rattle.regulator_main.specs.Outside.{Outside, Output, outside, WritesWhole, IsCut}
use Rattle.regulator_main.specs.Reply.{Reply, Checks, RunsWhole, StopsAtLoad, DoesSession, Refuses, Replies}
use Rattle.regulator_main.specs.Runs.{text_of, load_fault_text}
use Rattle.regulator_main.specs.Wires.{Wires, wires_of}
use Rattle.regulator_main.specs.Words.{word_of}
use Rattle.regulator_main.proofs.WorkedPlaying.{not_run}

abbrev still : Wires
still = wires_of (λ n. 3) (λ n. None)

-- the wire of the load with one fault more, or with a list that it didn't tell before
abbrev with_fault : Wires
with_fault = wires_of (λ n. if n == 0 then 4 else 3) (λ n. None)

abbrev with_list : Wires
with_list = wires_of (λ n. 3) (λ n. if n == 0 then Some [] else None)

abbrev said : List ℕ → Status → Wires → Reply
said text end after = record { text = text; end = end; before = still; after = after }

faults_differ : ¬ (with_fault ≡ still)
faults_differ same = let count : 4 ≡ 3 = ap (λ (w : Wires). w.counts 0) same in omega (arith, count)

-- the text of the place that a status tells
text_at : Status → List ℕ
text_at (LoadFault chip reg) = load_fault_text chip reg
text_at _ = []

module _ (session : Session) (text : List ℕ) where
  -- checked: its board is lawful, the text is that of no rows, it ends well, and no wire was used
  not_lawful : ¬ Inv session.loaded.board session.loaded.plain → ¬ Checks session (said text Done still)
  not_lawful broken checks = broken checks.lawful

  other_text : text ≢ text_of session [] → ¬ Checks session (said text Done still)
  other_text other checks = other checks.text

  other_end : ¬ Checks session (said text Words still)
  other_end checks = let same : Words ≡ Done = checks.end in cc

  used_a_wire : (end : Status) → ¬ Checks session (said text end with_fault)
  used_a_wire end checks = faults_differ checks.wires

  -- run: so are the rows, the text is theirs, and it ends well
  other_run : ¬ RunsWhole session (said text Done with_list)
  other_run whole = not_run session whole.rows whole.runs

  other_rows : ((rows : List Row) → text ≢ text_of session rows) → ¬ RunsWhole session (said text Done still)
  other_rows other whole = other whole.rows whole.text

  no_good_end : ¬ RunsWhole session (said text Words still)
  no_good_end whole = let same : Words ≡ Done = whole.end in cc

  -- stopped at the load: so is it, the text tells where, and so does the end
  not_stopped : ¬ StopsAtLoad session (said text (LoadFault 0 16) with_list)
  not_stopped stop = let same : Some [] ≡ None = stop.stops.told in cc

  other_place : text ≢ load_fault_text 0 16 → ¬ StopsAtLoad session (said text (LoadFault 0 16) with_fault)
  unfolding text_at
  other_place other stop = other (stop.text ∙ sym (ap text_at stop.end))

  not_at_load : ¬ StopsAtLoad session (said text Done with_fault)
  not_at_load stop = let same : Done ≡ LoadFault stop.chip stop.reg = stop.end in cc

module _ (bytes text : List ℕ) where
  -- only a session is checked
  no_session : ((session : Session) → ¬ IsSession bytes session) → ¬ DoesSession Check bytes (said text Done still)
  no_session none does = none does.session does.is_session

  nothing_done : ¬ DoesSession Check bytes (said text Words still)
  nothing_done does = other_end does.session text does.does

  -- refused: for its first fault, which isn't want of memory, in its words and with its status, and no wire was used
  no_fault : ((fault : SessionFault) → ¬ FirstFault bytes fault) → (end : Status) → ¬ Refuses bytes (said text end still)
  no_fault none end refuses = none refuses.fault refuses.first

  for_memory : ¬ Refuses bytes (said text (SessionRefused (record { line = 0; kind = no_memory })) still)
  for_memory refuses =
      let same : SessionRefused (record { line = 0; kind = no_memory }) ≡ SessionRefused refuses.fault = refuses.end in
      let fault : record { line = 0; kind = no_memory } ≡ refuses.fault = cc in
      refuses.known (sym (ap (λ (f : SessionFault). f.kind) fault))

  without_words : (end : Status) → ¬ Refuses bytes (said [] end still)
  without_words end refuses = let same : [] ≡ refusal_text refuses.fault = refuses.text in cc

  refused_well : ¬ Refuses bytes (said text Done still)
  refused_well refuses = let same : Done ≡ SessionRefused refuses.fault = refuses.end in cc

  refused_on_wires : (end : Status) → ¬ Refuses bytes (said text end with_fault)
  refused_on_wires end refuses = faults_differ refuses.wires

  replied_on_wires : (end : Status) → ¬ Replies Check bytes (said text end with_fault)
  replied_on_wires end = ⊎_elim (λ does. used_a_wire does.session text end does.does) (refused_on_wires end)

-- what is seen of the outside: what the source has left and the sink took, how often each failed, and the wires
abbrev seen : List ℕ → ℕ → List ℕ → ℕ → Wires → Outside
seen left source_faults written sink_faults wires = outside (Some left) source_faults (Some written) sink_faults wires.counts wires.lists

abbrev before : Outside
before = seen [] 1 [] 1 still

-- the source may have failed, the sink may have failed or written, or a wire may have been used
abbrev after_source : Outside
after_source = seen [] 2 [] 1 still

abbrev after_sink : Outside
after_sink = seen [] 1 [] 2 still

abbrev after_written : Outside
after_written = seen [] 1 (7 ∷ []) 1 still

abbrev after_wire : Outside
after_wire = seen [] 1 [] 1 with_fault

written_differs : ¬ (after_written.output ≡ before.output)
written_differs same = let written : ◌≡◌ {A = Option (List ℕ)} (Some (7 ∷ [])) (Some []) = ap (λ (o : Output). o.written) same in cc

seven_is_left : ¬ TookAtMost 4194305 (Some []) (Some (7 ∷ []))
seven_is_left (taken, few, same) = let all : [] ≡ taken ++ 7 ∷ [] = cc same in omega (arith, ap length all, length-append taken (7 ∷ []))

-- an answer reads without a failure of the source, replies as the command does, and writes what it replies
failed_reading : (command : Command) (status : Status) → ¬ Answers command before after_source status
failed_reading command status answers = omega (arith, answers.reads.calm)

other_reply : (status : Status) → ¬ Answers Check before after_wire status
other_reply status answers = replied_on_wires answers.bytes answers.text answers.end answers.replies

lost_writing : (command : Command) (status : Status) → ¬ Answers command (seen [] 1 (7 ∷ []) 1 still) (seen [] 1 [] 1 still) status
lost_writing command status answers =
    ⊎_elim
    (λ (whole : WritesWhole answers.text answers.end (record { written = Some (7 ∷ []); faults = 1 }) (record { written = Some []; faults = 1 }) status). let same : Some [] ≡ Some (7 ∷ answers.text) = whole.wrote in cc)
    (λ (cut : IsCut answers.text (record { written = Some (7 ∷ []); faults = 1 }) (record { written = Some []; faults = 1 }) status). omega (arith, cut.rose))
    answers.writes

-- want of memory
wants_memory : WantsMemory before before Memory
wants_memory = record { took = ([], omega arith, refl); calm = refl; output = refl; ends = refl }

wants_too_much : ¬ WantsMemory before (seen (7 ∷ []) 1 [] 1 still) Memory
wants_too_much want = seven_is_left want.took

wants_and_fails : ¬ WantsMemory before after_source Memory
wants_and_fails want = omega (arith, want.calm)

wants_and_writes : ¬ WantsMemory before after_written Memory
wants_and_writes want = written_differs want.output

wants_and_ends : ¬ WantsMemory before before Done
wants_and_ends want = let same : Done ≡ Memory = want.ends in cc

-- one byte above the limit may be read
module _ (bytes : List ℕ) (count : length bytes ≡ 4194305) where
  abbrev long : ℕ → Outside
  long faults = record { input = record { left = with_before bytes (Some []); faults = faults }; output = before.output; wires = still }

  wants_after_all : WantsMemory (long 1) before Memory
  wants_after_all = record { took = (bytes, omega (arith, count), refl); calm = refl; output = refl; ends = refl }

  fails_after_all : CantRead (long 1) after_source ReadFault
  fails_after_all = record { took = (bytes, omega (arith, count), refl); rose = omega arith; output = refl; wires = refl; ends = refl }

-- a source that failed
fails_too_late : ¬ CantRead before (seen (7 ∷ []) 2 [] 1 still) ReadFault
fails_too_late cant = seven_is_left cant.took

fails_without_fault : ¬ CantRead before before ReadFault
fails_without_fault cant = omega (arith, cant.rose)

fails_and_writes : ¬ CantRead before (seen [] 2 (7 ∷ []) 1 still) ReadFault
fails_and_writes cant = written_differs cant.output

fails_on_wires : ¬ CantRead before (seen [] 2 [] 1 with_fault) ReadFault
fails_on_wires cant = faults_differ cant.wires

fails_and_ends : ¬ CantRead before after_source Done
fails_and_ends cant = let same : Done ≡ ReadFault = cant.ends in cc

-- words that are no command
is_a_command : ¬ IsNoCommand (codes "check" ∷ []) before before Words
is_a_command none = none.none Check refl

does_something : ¬ IsNoCommand [] before after_source Words
does_something none = let faults : 2 ≡ 1 = ap (λ (o : Outside). o.input.faults) none.stays in omega (arith, faults)

ends_well : ¬ IsNoCommand [] before before Done
ends_well none = let same : Done ≡ Words = none.ends in cc

no_words : (status : Status) → ¬ IsCommand [] before before status
no_words status one = let same : [] ≡ word_of one.command ∷ [] = one.are in cc

never_goes : (words : List (List ℕ)) (status : Status) → ((command : Command) → ¬ CommandGoes command before before status) → ¬ IsCommand words before before status
never_goes words status never one = never one.command one.goes

-- given bytes are told, and neither source nor sink fails
is_given : IsGiven (7 ∷ []) (seen (7 ∷ []) 1 [] 1 still) before
is_given = record { told = refl; source = omega arith; sink = omega arith }

others_given : ¬ IsGiven (7 ∷ []) before before
others_given given = let same : Some [] ≡ Some (7 ∷ []) = given.told in cc

source_fails : ¬ IsGiven [] before after_source
source_fails given = omega (arith, given.source)

sink_fails : ¬ IsGiven [] before after_sink
sink_fails given = omega (arith, given.sink)

-- what is given isn't answered by a failure
neither : (first second : Status) → ¬ (ReadFault ≡ first) → ¬ (ReadFault ≡ second) → ¬ ((ReadFault ≡ first) ⊎ (ReadFault ≡ second))
neither first second not_first not_second = ⊎_elim not_first not_second

module _ (bytes : List ℕ) (given : IsGiven bytes before before) where
  module _ (session : Session) (is : IsSession bytes session) where
    not_checked : ¬ AnswersSessions (codes "check" ∷ []) before before ReadFault
    not_checked answers = neither Done Memory (λ same. cc) (λ same. cc) (answers.checked bytes session refl given is)

    not_run_well : planned_stop (is_planned session.refusals 0) (length session.loaded.writes) ≡ None → ¬ AnswersSessions (codes "solo" ∷ []) before before ReadFault
    not_run_well none answers = neither Done Memory (λ same. cc) (λ same. cc) (answers.run bytes session refl given is (omega arith) none)

    not_stopped_there : (made : ℕ) (write : Write) → planned_stop (is_planned session.refusals 0) (length session.loaded.writes) ≡ Some made → slice_get session.loaded.writes made ≡ Some write
        → ¬ AnswersSessions (codes "solo" ∷ []) before before ReadFault
    not_stopped_there made write some there answers =
        neither (LoadFault write.chip write.reg) Memory (λ same. cc) (λ same. cc) (answers.stopped bytes session refl given is (omega arith) made write some there)

    run_not_checked : ¬ IsRun (codes "check" ∷ []) before before ReadFault
    run_not_checked run = not_checked run.sessions

  run_not_refused : (fault : SessionFault) → FirstFault bytes fault → ¬ IsRun (codes "check" ∷ []) before before ReadFault
  run_not_refused fault first run = neither (SessionRefused fault) Memory (λ same. cc) (λ same. cc) (run.faults Check bytes fault refl given first)

run_does_something : ¬ IsRun [] before after_source Words
run_does_something run =
    ⊎_elim (λ (none : IsNoCommand [] before after_source Words). does_something none) (λ (one : IsCommand [] before after_source Words). let same : [] ≡ word_of one.command ∷ [] = one.are in cc) run.goes
