-- Rows worked out by hand on the coupled bucks: which may come next, which fail by one clause alone,
-- and what a history leaves.
use Rattle.std.specs.Prelude.{◌≡◌, ℕ, ◌<◌, true, false, List, [], ◌∷◌, Option, Some, None, length, codes}
use Rattle.std.proofs.Common.{refl, inl, inr, arith, ap}
use Rattle.std.proofs.Math.Logic.{⊎_elim}
use Rattle.std.proofs.lemmas.List.Elements.{All-from_recursion}
use Rattle.linear_range.specs.Values.{values}
use Rattle.ramp_delay.specs.Times.{time_of}
use Rattle.chip_regs.specs.Registers.{with_byte, byte_of, with_field, field_of}
use Rattle.arrayvec.specs.ArrayString.{ArrayString}
use Rattle.board_graph.proofs.FailsBy.{FailsBy}
use Rattle.board.specs.declared.write.Write.{Write}
use Rattle.board.proofs.Boards.{coupled_board}
use Rattle.rows.specs.declared.answer.Answer.{Answer}
use Rattle.rows.specs.declared.answer.Answer.TheVariants.{Ok, OkTime, OkSet, OkUv, NoValue, Fault}
use Rattle.rows.specs.declared.call.Call.{Call}
use Rattle.rows.specs.declared.call.Call.TheVariants.{Open, Set, Get, Enable}
use Rattle.rows.specs.declared.row.Row.{Row}
use Rattle.use_counts.specs.declared.handle_row.HandleRow.{HandleRow}
use Rattle.plain_board.specs.declared.plain.Plain.{Plain}
use Rattle.plain_board.specs.Answer.{answer, plan}
use Rattle.plain_board.specs.History.{after, replay, IsNext, IsLegal, KeepsNone, Keeps, moved, faults_of}
use Rattle.plain_board.proofs.Played.{rail, a, b, named}
use Rattle.plain_board.proofs.PlayedBoards.{pair_plain}

abbrev handle_of : ℕ → ArrayString → Option (ℕ × ℕ) → HandleRow
handle_of worker handle request = record { worker = worker; handle = handle; enables = 0; request = request; load = 0; cursor = None; exclusive = false }

-- both rails at 800000 µV; worker 1 asks for that on the first, worker 2 for nothing on the second
abbrev plain : Plain
plain = record pair_plain { handles = (rail 0, handle_of 1 a (Some (800000, 800000))) ∷ (rail 1, handle_of 2 b None) ∷ [] }

abbrev row : ℕ → ℕ → Call → Answer → List Write → Row
row worker line call answer writes = record { worker = worker; line = line; call = call; answer = answer; writes = writes }

abbrev to_selector : ℕ → Write
to_selector bits = record { chip = 0; reg = 0x10; mask = 0x7f; bits = bits }

abbrev set_a : Call
set_a = Set a 806251 820000

-- worker 2 has had a row
abbrev got_row : Row
got_row = row 2 1 (Get b) (OkUv 800000) []

abbrev before : List Row
before = got_row ∷ []

-- a row that may come next, with its writes and without
abbrev answered_row : Row
answered_row = row 1 1 set_a (OkSet 812500 1) (to_selector 33 ∷ to_selector 34 ∷ [])

next : IsNext coupled_board plain before answered_row
unfolding with_byte byte_of with_field field_of values time_of
next = record { rail = tt; stop = tt; answered = refl; line = refl; writes = inr refl }

next_without : IsNext coupled_board plain before (record answered_row { writes = [] })
unfolding with_byte byte_of with_field field_of values time_of
next_without = record { rail = tt; stop = tt; answered = refl; line = refl; writes = inl refl }

-- a row that the bus stopped at its second move
abbrev stopped_row : Row
stopped_row = row 1 1 set_a (Fault 0 0x10 1 ((rail 0, 806250) ∷ [])) (to_selector 33 ∷ [])

long : length (plan coupled_board plain 1 set_a) ≡ 2
unfolding with_byte byte_of with_field field_of values time_of
long = refl

next_stopped : IsNext coupled_board plain before stopped_row
unfolding with_byte byte_of with_field field_of values time_of
next_stopped = record { rail = tt; stop = omega (arith, long); answered = refl; line = refl; writes = inr refl }

-- a refused row has no writes to keep
next_refused : IsNext coupled_board plain before (row 2 2 (Set b 800001 806249) NoValue [])
unfolding with_byte byte_of with_field field_of values time_of
next_refused = record { rail = tt; stop = tt; answered = refl; line = refl; writes = inr refl }

-- the board has no rail 2
abbrev nowhere : Row
nowhere = row 1 1 (Open (named (codes "c")) (rail 2) false) Ok []

no_rail : FailsBy (2 < 2) (IsNext coupled_board plain before nowhere)
no_rail = record {
  needs = λ h. h.rail;
  suffices = λ inside. record { rail = inside; stop = tt; answered = refl; line = refl; writes = inl refl };
  fails = λ inside. omega arith;
}

-- all moves were made and yet it stopped
abbrev past_the_end : Row
past_the_end = row 1 1 set_a (Fault 0 0 2 ((rail 0, 812500) ∷ [])) []

no_stop : FailsBy (2 < length (plan coupled_board plain 1 set_a)) (IsNext coupled_board plain before past_the_end)
unfolding with_byte byte_of with_field field_of values time_of
no_stop = record {
  needs = λ h. h.stop;
  suffices = λ inside. record { rail = tt; stop = inside; answered = refl; line = refl; writes = inl refl };
  fails = λ inside. omega (arith, inside, long);
}

-- the plain board answers 812500
abbrev told_uv : Answer → ℕ
told_uv (OkSet uv delay) = uv
told_uv _ = 0

no_answer : FailsBy (OkSet 818750 2 ≡ OkSet 812500 1) (IsNext coupled_board plain before (row 1 1 set_a (OkSet 818750 2) []))
unfolding with_byte byte_of with_field field_of values time_of
no_answer = record {
  needs = λ h. h.answered;
  suffices = λ same. record { rail = tt; stop = tt; answered = same; line = refl; writes = inl refl };
  fails = λ same. omega (arith, ap told_uv same);
}

-- it is the worker's first line, though another worker had one before
no_line : FailsBy (◌≡◌ {A = ℕ} 2 1) (IsNext coupled_board plain before (record answered_row { line = 2 }))
unfolding with_byte byte_of with_field field_of values time_of
no_line = record {
  needs = λ h. h.line;
  suffices = λ same. record { rail = tt; stop = tt; answered = refl; line = same; writes = inr refl };
  fails = λ same. omega (arith, same);
}

-- the second write is missing
no_write_kept : FailsBy (to_selector 33 ∷ [] ≡ to_selector 33 ∷ to_selector 34 ∷ []) (IsNext coupled_board plain before (record answered_row { writes = to_selector 33 ∷ [] }))
unfolding with_byte byte_of with_field field_of values time_of
no_write_kept = record {
  needs = λ h. ⊎_elim (λ none. absurd (let differ : to_selector 33 ∷ [] ≡ [] = none in cc)) (λ same. same) h.writes;
  suffices = λ same. record { rail = tt; stop = tt; answered = refl; line = refl; writes = inr same };
  fails = λ same. omega (arith, ap length same);
}

-- four rows of two workers, the second stopped: what they leave, what they wrote, and their faults
abbrev history : List Row
history = got_row ∷ stopped_row ∷ row 2 2 (Enable b) (OkTime 100) [] ∷ row 1 2 (Get a) (OkUv 806250) [] ∷ []

legal : IsLegal coupled_board plain history
unfolding with_byte byte_of with_field field_of values time_of
legal = (
  record { rail = tt; stop = tt; answered = refl; line = refl; writes = inl refl },
  (next_stopped, (record { rail = tt; stop = tt; answered = refl; line = refl; writes = inl refl }, (record { rail = tt; stop = tt; answered = refl; line = refl; writes = inr refl }, tt))),
)

wrote : moved coupled_board plain 1 history ≡ to_selector 33 ∷ []
unfolding with_byte byte_of with_field field_of values time_of
wrote = refl

other_wrote : moved coupled_board plain 2 history ≡ record { chip = 0; reg = 0x20; mask = 2; bits = 2 } ∷ []
unfolding with_byte byte_of with_field field_of values time_of
other_wrote = refl

faulted : faults_of 1 history ≡ 1
faulted = refl

unfaulted : faults_of 2 history ≡ 0
unfaulted = refl

-- the old request doesn't meet the value that the stop left, and is withdrawn
left : (replay coupled_board plain history).handles ≡ (rail 0, handle_of 1 a None) ∷ (rail 1, record (handle_of 2 b None) { enables = 1 }) ∷ []
unfolding with_byte byte_of with_field field_of values time_of
left = refl

-- a stop where the plan has no move leaves all as it was, and so does one behind it
stopped_nowhere : after coupled_board plain past_the_end ≡ plain
unfolding with_byte byte_of with_field field_of values time_of
stopped_nowhere = refl

-- some rows have kept no writes, and these have
kept_none : KeepsNone (got_row ∷ record stopped_row { writes = [] } ∷ [])
kept_none = All-from_recursion (λ (row : Row). row.writes ≡ []) (got_row ∷ record stopped_row { writes = [] } ∷ []) (refl, (refl, tt))

kept_one : ¬ KeepsNone (got_row ∷ stopped_row ∷ [])
kept_one none = omega (arith, ap length (none 1 got_row (omega arith)))

-- the same rows with their writes, each of those that it made, and one without those that it made
abbrev kept_history : List Row
kept_history = got_row ∷ stopped_row ∷ row 2 2 (Enable b) (OkTime 100) (record { chip = 0; reg = 0x20; mask = 2; bits = 2 } ∷ []) ∷ row 1 2 (Get a) (OkUv 806250) [] ∷ []

kept_each : Keeps true coupled_board plain kept_history
unfolding with_byte byte_of with_field field_of values time_of
kept_each = (refl, (refl, (refl, (refl, tt))))

-- what a row made depends on the rows before it: the rail comes back from where the first one took it
kept_in_turn : Keeps true coupled_board plain (answered_row ∷ row 1 2 (Set a 800000 806250) (OkSet 800000 1) (to_selector 33 ∷ to_selector 32 ∷ []) ∷ [])
unfolding with_byte byte_of with_field field_of values time_of
kept_in_turn = (refl, (refl, tt))

kept_not_each : ¬ Keeps true coupled_board plain history
unfolding with_byte byte_of with_field field_of values time_of
kept_not_each keeps = omega (arith, ap length keeps.1.1.0)

kept_false : Keeps false coupled_board plain (got_row ∷ [])
kept_false = All-from_recursion (λ (row : Row). row.writes ≡ []) (got_row ∷ []) (refl, tt)
