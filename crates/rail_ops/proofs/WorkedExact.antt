-- What a call does on a wire and before the worker, worked out by hand, and for each clause what breaks it.
use Rattle.std.specs.Prelude.{◌≡◌, ℕ, Bool, true, false, List, [], ◌∷◌, Some, None}
use Rattle.std.proofs.Common.{refl, arith}
use Rattle.reg_outside.specs.Bus.{Bus, Updates}
use Rattle.board.specs.declared.write.Write.{Write}
use Rattle.rows.specs.declared.answer.Answer.{Answer}
use Rattle.rows.specs.declared.answer.Answer.TheVariants.{Fault, NoHandle, Ok, OkTime}
use Rattle.rows.specs.declared.call.Call.TheVariants.{Get}
use Rattle.plain_board.specs.Plan.{switch}
use Rattle.plain_board.proofs.Played.{a}
use Rattle.plain_board.proofs.PlayedBoards.{fork_board, fork_plain}
use Rattle.rail_ops.specs.Exact.{IsExact, IsLeft}
use Rattle.rail_ops.specs.Sight.{Place, placed}
use Rattle.rail_ops.specs.Taking.{Counts, Tells, Took, updates_of}
use Rattle.rail_ops.proofs.WorkedSight.{seen_of}

-- the updates that switch the battery on, and then the first buck
two_on : updates_of fork_board (switch 1 0 ∷ switch 1 1 ∷ []) ≡ (1, 0, 1, 1) ∷ (0, 0x20, 1, 1) ∷ []
two_on = refl

abbrev bus : Updates → ℕ → Bus
bus taken faults = record { taken = Some taken; plan = None; faults = faults }

-- a fault is counted where there was one
counted : Counts true 3 4
counted = omega arith

uncounted : Counts true 3 3 → ⊥
uncounted counts = omega (arith, counts)

counted_for_nothing : Counts false 3 4 → ⊥
counted_for_nothing counts = absurd (cc counts)

-- one update was taken, and then one refused
took_one : Tells ((1, 0, 1, 1) ∷ []) true (bus [] 0) (bus ((1, 0, 1, 1) ∷ []) 1)
took_one = record { taken = refl; faults = omega arith; tried = record { counted = refl; unplanned = tt } }

took_none : Tells ((1, 0, 1, 1) ∷ []) true (bus [] 0) (bus [] 1) → ⊥
took_none tells = absurd (cc tells.taken)

took_one_more : Tells ((1, 0, 1, 1) ∷ []) true (bus [] 0) (bus ((1, 0, 1, 1) ∷ (0, 0x20, 1, 1) ∷ []) 1) → ⊥
took_one_more tells = absurd (cc tells.taken)

refused_in_silence : Tells ((1, 0, 1, 1) ∷ []) true (bus [] 0) (bus ((1, 0, 1, 1) ∷ []) 0) → ⊥
refused_in_silence tells = omega (arith, tells.faults)

-- a call of two moves: done, stopped after the first, and stopped where there is no move
done_two : Took fork_board (switch 1 0 ∷ switch 1 1 ∷ []) (OkTime 0) (bus [] 0) (bus ((1, 0, 1, 1) ∷ (0, 0x20, 1, 1) ∷ []) 0)
done_two = record { within = tt; tells = record { taken = refl; faults = refl; tried = record { counted = refl; unplanned = tt } } }

stopped_at_second : Took fork_board (switch 1 0 ∷ switch 1 1 ∷ []) (Fault 0 0x20 1 []) (bus [] 0) (bus ((1, 0, 1, 1) ∷ []) 1)
stopped_at_second = record { within = omega arith; tells = record { taken = refl; faults = omega arith; tried = record { counted = refl; unplanned = tt } } }

stopped_past_all : Took fork_board (switch 1 0 ∷ []) (Fault 0 0x20 1 []) (bus [] 0) (bus ((1, 0, 1, 1) ∷ []) 1) → ⊥
stopped_past_all took = omega (arith, took.within)

done_half : Took fork_board (switch 1 0 ∷ switch 1 1 ∷ []) (OkTime 0) (bus [] 0) (bus ((1, 0, 1, 1) ∷ []) 0) → ⊥
done_half took = absurd (cc took.tells.taken)

-- a look by a name that isn't open
abbrev here : Place
here = placed (seen_of fork_plain) [] 1

abbrev exact : Answer → List Write → Place → Bus → Bool → Type 0
exact said writes after bus' keep = IsExact (Get a) here after (bus [] 0) bus' keep said writes fork_plain

answered_wrongly : exact Ok [] here (bus [] 0) true → ⊥
answered_wrongly is = absurd (cc is.answered)

left_with_a_name : exact NoHandle [] (placed (seen_of fork_plain) ((a.bytes, 1) ∷ []) 1) (bus [] 0) true → ⊥
left_with_a_name is = absurd (cc (is.leaves.knows.rails a.bytes))

took_for_nothing : exact NoHandle [] here (bus ((1, 0, 1, 1) ∷ []) 0) true → ⊥
took_for_nothing is = absurd (cc is.took.tells.taken)

kept_for_nothing : exact NoHandle (record { chip = 1; reg = 0; mask = 1; bits = 1 } ∷ []) here (bus [] 0) true → ⊥
kept_for_nothing is = absurd (cc is.kept)

-- where the memory was out no name is open that wasn't
names_left : IsLeft (Get a) here (placed (seen_of fork_plain) ((a.bytes, 1) ∷ []) 1) (bus [] 0) (bus [] 0) fork_plain → ⊥
names_left left = absurd (cc left.names)
