-- Stops worked out by hand: which are as a plan says, which are stray, and which moves are out of step.
use Rattle.std.specs.Prelude.{◌≡◌, ℕ, Bool, true, false, List, [], ◌∷◌, None}
use Rattle.std.proofs.Common.{refl, sym, subst, arith, eqb}
use Rattle.std.proofs.lemmas.Bool.{eqb-true, false≢true}
use Rattle.ramp_delay.specs.Times.{time_of}
use Rattle.linear_range.specs.Values.{values}
use Rattle.chip_regs.specs.Registers.{with_byte, byte_of, with_field, field_of}
use Rattle.arrayvec.specs.ArrayString.{ArrayString}
use Rattle.board_graph.proofs.FailsBy.{FailsBy}
use Rattle.board.proofs.Boards.{coupled_board}
use Rattle.rows.specs.declared.answer.Answer.TheVariants.{OkUv, Fault}
use Rattle.rows.specs.declared.call.Call.TheVariants.{Set, Get}
use Rattle.rows.specs.declared.row.Row.{Row}
use Rattle.use_counts.specs.declared.handle_row.HandleRow.{HandleRow}
use Rattle.plain_board.specs.declared.plain.Plain.{Plain}
use Rattle.plain_board.specs.Stops.{Tries, tries_of, attempts, none_planned, are_in_step, is_stray, strays, Refusals, is_planned, ArePlanned}
use Rattle.plain_board.proofs.Played.{rail, a, b}
use Rattle.plain_board.proofs.PlayedBoards.{pair_plain}

-- worker 1's updates 2 and 5 are to be refused, and worker 2's first one
abbrev refusals : Refusals
refusals = (1, 2) ∷ (2, 1) ∷ (1, 5) ∷ []

second_of_one : is_planned refusals 1 2 ≡ true
second_of_one = refl

first_of_two : is_planned refusals 2 1 ≡ true
first_of_two = refl

other_number : is_planned refusals 1 1 ≡ false
other_number = refl

other_worker : is_planned refusals 2 2 ≡ false
other_worker = refl

abbrev done : ℕ → Tries
done made = record { made = made; stopped = false }

abbrev stopped : ℕ → Tries
stopped made = record { made = made; stopped = true }

two_made : attempts (done 2) ≡ 2
two_made = refl

two_made_and_one_refused : attempts (stopped 2) ≡ 3
two_made_and_one_refused = refl

third_and_fourth_are_not : none_planned (is_planned refusals 1) 2 2 ≡ true
third_and_fourth_are_not = refl

fifth_is : none_planned (is_planned refusals 1) 2 3 ≡ false
fifth_is = refl

nothing_made : none_planned (is_planned refusals 1) 1 0 ≡ true
nothing_made = refl

-- stopped at 2 and at 5
in_step : are_in_step (is_planned refusals 1) 0 (stopped 1 ∷ done 0 ∷ stopped 2 ∷ []) ≡ true
in_step = refl

none_is_stray : strays (is_planned refusals 1) 0 (stopped 1 ∷ done 0 ∷ stopped 2 ∷ []) ≡ 0
none_is_stray = refl

-- stopped at 2, at 3 and at 4, of which the plan has the first
in_step_too : are_in_step (is_planned refusals 1) 0 (stopped 1 ∷ stopped 0 ∷ stopped 0 ∷ done 0 ∷ []) ≡ true
in_step_too = refl

two_are_stray : strays (is_planned refusals 1) 0 (stopped 1 ∷ stopped 0 ∷ stopped 0 ∷ done 0 ∷ []) ≡ 2
two_are_stray = refl

stop_at_two : is_stray (is_planned refusals 1) 0 (stopped 1) ≡ false
stop_at_two = refl

stop_at_three : is_stray (is_planned refusals 1) 2 (stopped 0) ≡ true
stop_at_three = refl

no_stop_is_stray : is_stray (is_planned refusals 1) 2 (done 1) ≡ false
no_stop_is_stray = refl

-- update 2 was made, and it was to be refused; so was update 5, by a later row
out_of_step : are_in_step (is_planned refusals 1) 0 (done 2 ∷ []) ≡ false
out_of_step = refl

later_out_of_step : are_in_step (is_planned refusals 1) 0 (stopped 1 ∷ done 3 ∷ []) ≡ false
later_out_of_step = refl

-- both rails at 800000 µV; worker 1's set of the first was stopped at the second of its two moves, and then worker 2 read the second
abbrev handle_of : ℕ → ArrayString → HandleRow
handle_of worker handle = record { worker = worker; handle = handle; enables = 0; request = None; load = 0; cursor = None; exclusive = false }

abbrev plain : Plain
plain = record pair_plain { handles = (rail 0, handle_of 1 a) ∷ (rail 1, handle_of 2 b) ∷ [] }

abbrev rows : List Row
rows =
    record { worker = 1; line = 1; call = Set a 806251 820000; answer = Fault 0 0x10 1 ((rail 0, 806250) ∷ []); writes = [] }
    ∷ record { worker = 2; line = 1; call = Get b; answer = OkUv 800000; writes = [] }
    ∷ []

one_tried : tries_of coupled_board plain 1 rows ≡ stopped 1 ∷ []
unfolding with_byte byte_of with_field field_of values time_of
one_tried = refl

two_tried : tries_of coupled_board plain 2 rows ≡ done 0 ∷ []
unfolding with_byte byte_of with_field field_of values time_of
two_tried = refl

-- what holds of both workers, and of one that tried nothing, holds of each
each_by : (P : ℕ → List Tries → Type 0) → P 1 (stopped 1 ∷ []) → P 2 (done 0 ∷ []) → ((worker : ℕ) → P worker []) → (one two : Bool) (worker : ℕ) → eqb 1 worker ≡ one → eqb 2 worker ≡ two → P worker (tries_of coupled_board plain worker rows)
each_by P first second none true two worker is_one is_two = subst (λ w. P w (tries_of coupled_board plain w rows)) (eqb-true 1 worker is_one) (subst (P 1) (sym one_tried) first)
each_by P first second none false true worker is_one is_two = subst (λ w. P w (tries_of coupled_board plain w rows)) (eqb-true 2 worker is_two) (subst (P 2) (sym two_tried) second)
each_by P first second none false false worker is_one is_two = rw (is_one, is_two) (none worker)

each : (P : ℕ → List Tries → Type 0) → P 1 (stopped 1 ∷ []) → P 2 (done 0 ∷ []) → ((worker : ℕ) → P worker []) → (worker : ℕ) → P worker (tries_of coupled_board plain worker rows)
each P first second none worker = each_by P first second none (eqb 1 worker) (eqb 2 worker) worker refl refl

-- the plan has that stop
abbrev is_in_step : Refusals → ℕ → List Tries → Type 0
is_in_step plan worker ts = are_in_step (is_planned plan worker) 0 ts ≡ true

abbrev has_no_stray : Refusals → ℕ → List Tries → Type 0
has_no_stray plan worker ts = strays (is_planned plan worker) 0 ts ≡ 0

planned : ArePlanned coupled_board plain rows ((1, 2) ∷ [])
planned = record {
  in_step = each (is_in_step ((1, 2) ∷ [])) refl refl (λ worker. refl);
  none_stray = each (has_no_stray ((1, 2) ∷ [])) refl refl (λ worker. refl);
}

-- it has none
stray : FailsBy (◌≡◌ {A = ℕ} 1 0) (ArePlanned coupled_board plain rows [])
stray = record {
  needs = λ planned. subst (has_no_stray [] 1) one_tried (planned.none_stray 1);
  suffices = λ same. record { in_step = each (is_in_step []) refl refl (λ worker. refl); none_stray = each (has_no_stray []) same refl (λ worker. refl) };
  fails = λ same. omega (arith, same);
}

-- it has the first move too, which was made
too_early : FailsBy (false ≡ true) (ArePlanned coupled_board plain rows ((1, 1) ∷ (1, 2) ∷ []))
too_early = record {
  needs = λ planned. subst (is_in_step ((1, 1) ∷ (1, 2) ∷ []) 1) one_tried (planned.in_step 1);
  suffices = λ same. record { in_step = each (is_in_step ((1, 1) ∷ (1, 2) ∷ [])) same refl (λ worker. refl); none_stray = each (has_no_stray ((1, 1) ∷ (1, 2) ∷ [])) refl refl (λ worker. refl) };
  fails = λ same. false≢true same;
}
