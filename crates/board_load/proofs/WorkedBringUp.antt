-- What a wire tells of the writes of loading, worked out by hand: its updates 5 and 2 are planned to be refused.
use Rattle.std.specs.Prelude.{◌≡◌, ◌≢◌, ◌+◌, ℕ, false, true, List, [], ◌∷◌, Option, Some, None, slice_get, take}
use Rattle.std.specs.Option.{option_map_or}
use Rattle.std.specs.FinSet.{from_list, contains-from_list_nat}
use Rattle.std.proofs.Common.{refl, sym, ap, subst, ◌∙◌, arith}
use Rattle.std.proofs.lemmas.Bool.{ne_eqb, false≢true}
use Rattle.reg_outside.specs.Count.{raised}
use Rattle.reg_outside.specs.Plan.{Plan, refuses, RefusesNoneOfNext}
use Rattle.board.specs.declared.write.Write.{Write}
use Rattle.plain_board.specs.Update.{update_of}
use Rattle.reg_outside.specs.Bus.{Bus, told_by, tried_more}
use Rattle.board_load.specs.BringUp.{Took, TookAll, StoppedAt}

abbrev write : ℕ → Write
write reg = record { chip = 1; reg = reg; mask = 0x1f; bits = 10 }

as_told : update_of (write 0x12) ≡ (1, 0x12, 0x1f, 10)
as_told = refl

-- after so many updates
abbrev after : ℕ → Plan
after tried = record { tried = tried; numbers = from_list (5 ∷ 2 ∷ []) }

three_more : tried_more 3 (Some (after 2)) ≡ Some (after 5)
three_more = refl

none_told : tried_more 3 None ≡ None
none_told = refl

up_to_the_end : tried_more 3 (Some (after 18446744073709551614)) ≡ Some (after 18446744073709551615)
up_to_the_end = refl

-- a wire that tells what it took, how many updates were tried, and its faults
abbrev bus : List (ℕ × ℕ × ℕ × ℕ) → ℕ → ℕ → Bus
bus taken tried faults = record { taken = Some taken; plan = Some (after tried); faults = faults }

told_parts : told_by (λ (n : ℕ). None) (λ n. Some (after n)) (λ n. n + 1) 4 ≡ record { taken = None; plan = Some (after 4); faults = 5 }
told_parts = refl

abbrev first : ℕ × ℕ × ℕ × ℕ
first = (1, 0x10, 0x1f, 10)

abbrev second : ℕ × ℕ × ℕ × ℕ
second = (1, 0x11, 0x1f, 10)

abbrev third : ℕ × ℕ × ℕ × ℕ
third = (1, 0x12, 0x1f, 10)

abbrev two_writes : List Write
two_writes = write 0x10 ∷ write 0x11 ∷ []

abbrev three_writes : List Write
three_writes = write 0x10 ∷ write 0x11 ∷ write 0x12 ∷ []

five : refuses (after 2) 5 ≡ true
five = contains-from_list_nat (5 ∷ 2 ∷ []) 5

other : (number : ℕ) → number ≢ 2 → number ≢ 5 → refuses (after 2) number ≡ false
other number no_two no_five =
    contains-from_list_nat (5 ∷ 2 ∷ []) number
    ∙ rw (ne_eqb 5 number (λ is. no_five (sym is)), ne_eqb 2 number (λ is. no_two (sym is))) refl

third_and_fourth : RefusesNoneOfNext (after 2) 2
third_and_fourth number above within = other number (omega arith) (omega arith)

-- the updates 3 and 4 are taken
both_taken : Took (bus [] 2 0) (bus (first ∷ second ∷ []) 4 0) two_writes
both_taken = record { taken = refl; unplanned = third_and_fourth }

took_both : TookAll (bus [] 2 0) (bus (first ∷ second ∷ []) 4 0) two_writes
took_both = record { took = both_taken; plan = refl; calm = refl }

-- what tells nothing may have taken any
nothing_told : TookAll (record { taken = None; plan = None; faults = 3 }) (record { taken = None; plan = None; faults = 3 }) two_writes
nothing_told = record { took = record { taken = refl; unplanned = tt }; plan = refl; calm = refl }

one_missing : ¬ Took (bus [] 2 0) (bus (first ∷ []) 4 0) two_writes
one_missing took = let taken = took.taken in cc

-- the update 5 can't be taken
one_planned : ¬ Took (bus [] 2 0) (bus (first ∷ second ∷ third ∷ []) 5 0) three_writes
one_planned took = false≢true (sym (took.unplanned 5 (omega arith) (omega arith)) ∙ five)

tried_by : Option Plan → ℕ
tried_by plan = option_map_or (λ (p : Plan). p.tried) plan 0

not_counted : ¬ TookAll (bus [] 2 0) (bus (first ∷ second ∷ []) 3 0) two_writes
unfolding tried_by
not_counted all = let same : 3 ≡ 4 = ap tried_by all.plan in absurd (omega (arith, same))

not_calm : ¬ TookAll (bus [] 2 0) (bus (first ∷ second ∷ []) 4 1) two_writes
not_calm all = let same : 1 ≡ 0 = all.calm in absurd (omega (arith, same))

not_took : ¬ TookAll (bus [] 2 0) (bus (first ∷ []) 4 0) two_writes
not_took all = one_missing all.took

-- the update 5 is refused
stopped : StoppedAt (bus [] 2 0) (bus (first ∷ second ∷ []) 5 1) three_writes 1 0x12
stopped = record { made = 2; write = write 0x12; next = refl; place = (refl, refl); took = record { taken = refl; unplanned = third_and_fourth }; plan = refl; rose = omega arith }

-- two were made where the plan counts three
made_two : (taken : List (ℕ × ℕ × ℕ × ℕ)) (faults : ℕ) (writes : List Write) (chip reg : ℕ) (stop : StoppedAt (bus [] 2 0) (bus taken 5 faults) writes chip reg) → stop.made ≡ 2
unfolding tried_by
made_two taken faults writes chip reg stop = let same : 5 ≡ raised 2 (stop.made + 1) = ap tried_by stop.plan in omega (arith, same)

next_is : (taken : List (ℕ × ℕ × ℕ × ℕ)) (faults : ℕ) (writes : List Write) (chip reg : ℕ) (stop : StoppedAt (bus [] 2 0) (bus taken 5 faults) writes chip reg) → slice_get writes 2 ≡ Some stop.write
next_is taken faults writes chip reg stop = ap (slice_get writes) (sym (made_two taken faults writes chip reg stop)) ∙ stop.next

other_register : ¬ StoppedAt (bus [] 2 0) (bus (first ∷ second ∷ []) 5 1) three_writes 1 0x13
other_register stop =
    let same : write 0x12 ≡ stop.write = let next = next_is (first ∷ second ∷ []) 1 three_writes 1 0x13 stop in cc in
    let reg : 0x12 ≡ 0x13 = ap (λ (w : Write). w.reg) same ∙ stop.place.1 in
    absurd (omega (arith, reg))

other_chip : ¬ StoppedAt (bus [] 2 0) (bus (first ∷ second ∷ []) 5 1) three_writes 0 0x12
other_chip stop =
    let same : write 0x12 ≡ stop.write = let next = next_is (first ∷ second ∷ []) 1 three_writes 0 0x12 stop in cc in
    let chip : 1 ≡ 0 = ap (λ (w : Write). w.chip) same ∙ stop.place.0 in
    absurd (omega (arith, chip))

-- behind the last write none is refused
none_next : ¬ StoppedAt (bus [] 2 0) (bus (first ∷ second ∷ []) 5 1) two_writes 1 0x12
none_next stop = let next = next_is (first ∷ second ∷ []) 1 two_writes 1 0x12 stop in cc

not_made : ¬ StoppedAt (bus [] 2 0) (bus (first ∷ []) 5 1) three_writes 1 0x12
not_made stop =
    let taken = subst (λ made. Took (bus [] 2 0) (bus (first ∷ []) 5 1) (take made three_writes)) (made_two (first ∷ []) 1 three_writes 1 0x12 stop) stop.took in
    let same = taken.taken in cc

no_fault : ¬ StoppedAt (bus [] 2 0) (bus (first ∷ second ∷ []) 5 0) three_writes 1 0x12
no_fault stop = absurd (omega (arith, stop.rose))

-- the refused update is counted by the plan
not_tried : ¬ StoppedAt (bus [] 2 0) (bus (first ∷ second ∷ []) 2 1) three_writes 1 0x12
unfolding tried_by
not_tried stop = let same : 2 ≡ raised 2 (stop.made + 1) = ap tried_by stop.plan in absurd (omega (arith, same))
