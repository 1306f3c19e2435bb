-- What follows for a caller from how a run of the program went.
use Rattle.std.proofs.Common.{◌≡◌, ℕ, ◌+◌, ◌<◌, ◌≤◌, ◌⊎◌, inl, inr, ⊎_elim, true, List, ◌++◌, Option, Some, None, sym, subst, ap, ◌∙◌, append-nil, arith, length, length-append}
use Rattle.std.specs.Prelude.{slice_get}
use Rattle.std.proofs.lemmas.Bool.{cases_lt}
use Rattle.std.proofs.lemmas.Option.{slice_get_within}
use Rattle.reg_outside.specs.Count.{Rose, Stayed}
use Rattle.reg_outside.specs.Told.{with_before, IsSpent}
use Rattle.reg_outside.proofs.CountFacts.{Rose-not_Stayed}
use Rattle.board.specs.declared.write.Write.{Write}
use Rattle.plain_board.specs.Stops.{is_planned}
use Rattle.session.specs.declared.fault.SessionFault.{SessionFault}
use Rattle.session.specs.declared.session.Session.{Session}
use Rattle.session.specs.Laws.{SessionsHaveNoFault, OneFault, OneSession, SayTheSame}
use Rattle.session.specs.Session.{session_limit, IsSession, FirstFault}
use Rattle.regulator_main.specs.declared.status.Status.{Status}
use Rattle.regulator_main.specs.declared.status.Status.TheVariants.{Done, Memory, SessionRefused, LoadFault}
use Rattle.regulator_main.specs.declared.words.Command.{Command}
use Rattle.regulator_main.specs.declared.words.Command.TheVariants.{Check, Solo}
use Rattle.regulator_main.specs.Bringing.{StopsLoad, planned_stop}
use Rattle.regulator_main.specs.Front.{CommandGoes, Goes, IsGiven, IsRun}
use Rattle.regulator_main.specs.Outside.{Outside, Reads, Writes}
use Rattle.regulator_main.specs.Reply.{Reply, Does, Replies}
use Rattle.regulator_main.specs.Words.{AreWordsOf}
use Rattle.regulator_main.proofs.PlannedStops.{none_stops, first_stops}

-- the whole of an input that isn't too long was read
all_by : (bytes input : List ℕ) (left : Option (List ℕ)) → Some bytes ≡ with_before input left → (length input ≤ session_limit → IsSpent left) → length bytes ≤ session_limit → bytes ≡ input
all_by bytes input None taken end short = absurd (cc taken)
all_by bytes input (Some rest) taken end short =
    let parts : bytes ≡ input ++ rest = cc taken in
    let within : length input ≤ session_limit = omega (arith, short, ap length parts, length-append input rest) in
    parts ∙ ap (λ r. input ++ r) (end within) ∙ append-nil input

-- of an input that is too long so much was read that it shows
much_by : (bytes input : List ℕ) (left : Option (List ℕ)) → Some bytes ≡ with_before input left → (length input ≤ session_limit → IsSpent left) → session_limit < length bytes → session_limit < length input
much_by bytes input None taken end long = absurd (cc taken)
much_by bytes input (Some rest) taken end long =
    let parts : bytes ≡ input ++ rest = cc taken in
    ⊎_elim
    (λ (is : session_limit < length input). is)
    (λ (within : length input ≤ session_limit).
    let whole : bytes ≡ input = parts ∙ ap (λ r. input ++ r) (end within) ∙ append-nil input in
    absurd (omega (arith, long, within, ap length whole)))
    (cases_lt session_limit (length input))

-- texts that are both too long have the same fault
too_long : (bytes input : List ℕ) (fault : SessionFault) → session_limit < length bytes → session_limit < length input → FirstFault bytes fault → FirstFault input fault
too_long bytes input fault long more (inl first) = inl (record { long = more; is = first.is })
too_long bytes input fault long more (inr (inl first)) = absurd (omega (arith, long, first.short))
too_long bytes input fault long more (inr (inr (inl first))) = absurd (omega (arith, long, first.has.short))
too_long bytes input fault long more (inr (inr (inr first))) = absurd (omega (arith, long, first.has.has_frame.short))

-- sessions that say the same are stopped alike
same_stop : (session other : Session) → SayTheSame session other
    → planned_stop (is_planned session.refusals 0) (length session.loaded.writes) ≡ planned_stop (is_planned other.refusals 0) (length other.loaded.writes)
same_stop session other same =
    ap (λ r. planned_stop (is_planned r 0) (length session.loaded.writes)) same.refusals
    ∙ ap (λ ws. planned_stop (is_planned other.refusals 0) (length ws)) same.writes

module _ (no_fault : SessionsHaveNoFault) (one_fault : OneFault) (one_session : OneSession) (before after : Outside) where
  -- a reply with what the wires were told
  abbrev said : List ℕ → Status → Reply
  said text end = record { text = text; end = end; before = before.wires; after = after.wires }

  module _ (bytes : List ℕ) (given : IsGiven bytes before after) where
    -- what was read has what was given
    session_read : (input : List ℕ) (session : Session) → Reads input before.input after.input → IsSession bytes session → IsSession input session
    session_read input session reads is =
        subst (λ b. IsSession b session) (all_by bytes input after.input.left (sym given.told ∙ reads.taken) reads.end is.has.has_frame.short) is

    fault_read : (input : List ℕ) (fault : SessionFault) → Reads input before.input after.input → FirstFault bytes fault → FirstFault input fault
    fault_read input fault reads first =
        let taken = sym given.told ∙ reads.taken in
        ⊎_elim
        (λ (long : session_limit < length bytes). too_long bytes input fault long (much_by bytes input after.input.left taken reads.end long) first)
        (λ (short : length bytes ≤ session_limit). subst (λ b. FirstFault b fault) (all_by bytes input after.input.left taken reads.end short) first)
        (cases_lt session_limit (length bytes))

    -- the reply was written whole
    whole : (text : List ℕ) (end status : Status) → Writes text end before.output after.output status → status ≡ end
    whole text end status (inl all) = all.ends
    whole text end status (inr part) = absurd (Rose-not_Stayed before.output.faults after.output.faults part.rose given.sink)

    -- the command ends as its reply says, or there was no memory
    module _ (command : Command) (end : Status) (by : (input text : List ℕ) (e : Status) → Reads input before.input after.input → Replies command input (said text e) → e ≡ end) where
      ends_so : (status : Status) → CommandGoes command before after status → (status ≡ end) ⊎ (status ≡ Memory)
      ends_so status (inl answers) =
          inl (whole answers.text answers.end status answers.writes ∙ by answers.bytes answers.text answers.end answers.reads answers.replies)
      ends_so status (inr (inl want)) = inr want.ends
      ends_so status (inr (inr failed)) = absurd (Rose-not_Stayed before.input.faults after.input.faults failed.rose given.source)

    module _ (session : Session) (is : IsSession bytes session) where
      -- a session is checked
      checks : (input text : List ℕ) (end : Status) → Reads input before.input after.input → Replies Check input (said text end) → end ≡ Done
      checks input text end reads (inl does) = does.does.end
      checks input text end reads (inr refuses) = absurd (no_fault input session refuses.fault (session_read input session reads is) refuses.first)

      module _ (calm : Stayed (before.wires.counts 0) (after.wires.counts 0)) where
        -- a stop of its load was planned
        was_planned : (other : Session) (chip reg : ℕ) → (stops : StopsLoad other.loaded.writes other.refusals chip reg before.wires after.wires) → is_planned other.refusals 0 (stops.made + 1) ≡ true
        was_planned other chip reg stops = by stops.why
          where
            by : (is_planned other.refusals 0 (stops.made + 1) ≡ true) ⊎ Rose (before.wires.counts 0) (after.wires.counts 0) → is_planned other.refusals 0 (stops.made + 1) ≡ true
            by (inl planned) = planned
            by (inr rose) = absurd (Rose-not_Stayed (before.wires.counts 0) (after.wires.counts 0) rose calm)

        -- where no stop of its load is planned, it is run
        module _ (none : planned_stop (is_planned session.refusals 0) (length session.loaded.writes) ≡ None) where
          run_does : (input text : List ℕ) (end : Status) (other : Session) → SayTheSame session other → Does Solo other (said text end) → end ≡ Done
          run_does input text end other same (inl run) = run.end
          run_does input text end other same (inr stop) =
              let stops = stop.stops in
              absurd (none_stops (is_planned other.refusals 0) (length other.loaded.writes) stops.made (sym (same_stop session other same) ∙ none)
              (slice_get_within other.loaded.writes stops.made stops.write stops.next) (was_planned other stop.chip stop.reg stops))

          runs : (input text : List ℕ) (end : Status) → Reads input before.input after.input → Replies Solo input (said text end) → end ≡ Done
          runs input text end reads (inl does) =
              run_does input text end does.session (one_session input session does.session (session_read input session reads is) does.is_session) does.does
          runs input text end reads (inr refuses) = absurd (no_fault input session refuses.fault (session_read input session reads is) refuses.first)

        -- where one is, it is stopped there
        module _ (made : ℕ) (write : Write) (some : planned_stop (is_planned session.refusals 0) (length session.loaded.writes) ≡ Some made) (there : slice_get session.loaded.writes made ≡ Some write) where
          stop_does : (input text : List ℕ) (end : Status) (other : Session) → SayTheSame session other → Does Solo other (said text end) → end ≡ LoadFault write.chip write.reg
          stop_does input text end other same (inl run) =
              let none = run.runs.load.unplanned in
              let wrong : Some made ≡ None = sym some ∙ same_stop session other same ∙ none in
              absurd cc
          stop_does input text end other same (inr stop) =
              let stops = stop.stops in
              let first : made ≡ stops.made = first_stops (is_planned other.refusals 0) (length other.loaded.writes) stops.made made (sym (same_stop session other same) ∙ some) stops.unplanned
              (slice_get_within other.loaded.writes stops.made stops.write stops.next) (was_planned other stop.chip stop.reg stops) in
              let writes : Some write ≡ Some stops.write = sym there ∙ ap (λ ws. slice_get ws made) same.writes ∙ ap (slice_get other.loaded.writes) first ∙ stops.next in
              let one : write ≡ stops.write = cc in
              let chip : stop.chip ≡ write.chip = sym stops.place.0 ∙ ap (λ (w : Write). w.chip) (sym one) in
              let reg : stop.reg ≡ write.reg = sym stops.place.1 ∙ ap (λ (w : Write). w.reg) (sym one) in
              stop.end ∙ ap (λ c. LoadFault c stop.reg) chip ∙ ap (LoadFault write.chip) reg

          stops : (input text : List ℕ) (end : Status) → Reads input before.input after.input → Replies Solo input (said text end) → end ≡ LoadFault write.chip write.reg
          stops input text end reads (inl does) =
              stop_does input text end does.session (one_session input session does.session (session_read input session reads is) does.is_session) does.does
          stops input text end reads (inr refuses) = absurd (no_fault input session refuses.fault (session_read input session reads is) refuses.first)

    -- a text with a fault is refused
    refuses : (fault : SessionFault) → FirstFault bytes fault → (command : Command) (input text : List ℕ) (end : Status) → Reads input before.input after.input → Replies command input (said text end) → end ≡ SessionRefused fault
    refuses fault first command input text end reads (inl does) = absurd (no_fault input does.session fault does.is_session (fault_read input fault reads first))
    refuses fault first command input text end reads (inr refused) = refused.end ∙ ap SessionRefused (one_fault input refused.fault fault refused.first (fault_read input fault reads first))

  module _ (words : List (List ℕ)) where
    -- how a command went, for that of the words
    of_words : (command : Command) (status : Status) → AreWordsOf command words → Goes words before after status → CommandGoes command before after status
    of_words command status are (inl other) = absurd (other.none command are)
    of_words command status are (inr one) = by command one.command are one.are one.goes
      where
        by : (command other : Command) → AreWordsOf command words → AreWordsOf other words → CommandGoes other before after status → CommandGoes command before after status
        by Check Check are also goes = goes
        by Solo Solo are also goes = goes
        by Check Solo are also goes = absurd (cc (are, also))
        by Solo Check are also goes = absurd (cc (are, also))

    pub is_run : (status : Status) → Goes words before after status → IsRun words before after status
    is_run status goes = record {
      goes = goes;
      sessions = record {
        checked = λ bytes session are given is. ends_so bytes given Check Done (checks bytes given session is) status (of_words Check status are goes);
        run = λ bytes session are given is calm none. ends_so bytes given Solo Done (runs bytes given session is calm none) status (of_words Solo status are goes);
        stopped = λ bytes session are given is calm made write some there.
            ends_so bytes given Solo (LoadFault write.chip write.reg) (stops bytes given session is calm made write some there) status (of_words Solo status are goes);
      };
      faults = λ command bytes fault are given first. ends_so bytes given command (SessionRefused fault) (refuses bytes given fault first command) status (of_words command status are goes);
    }
