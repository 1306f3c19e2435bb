-- Loads that are made or stopped, the turns of workers, and the line of a stopped load.
use Rattle.std.proofs.Common.{◌≡◌, ℕ, inl, inr, eqb, map, arith, true, false, List, [], ◌∷◌, Some, None, refl}
use Rattle.std.specs.Fmt.{digits}
use Rattle.std.specs.Prelude.{codes, if◌then◌else◌, ◌==◌}
use Rattle.std.proofs.lemmas.Bool.{ne_eqb}
use Rattle.board.specs.declared.write.Write.{Write}
use Rattle.reg_outside.specs.Bus.{Updates}
use Rattle.plain_board.specs.Update.{update_of}
use Rattle.rows.specs.declared.call.Call.{Call}
use Rattle.rows.specs.declared.call.Call.TheVariants.{Open, Set, Get}
use Rattle.plain_board.specs.Stops.{Refusals, is_planned}
use Rattle.plain_board.proofs.Played.{rail, a, b, lines}
use Rattle.regulator_main.specs.Bringing.{planned_stop, BringsUp, StopsLoad}
use Rattle.regulator_main.specs.Playing.{turns_of, turns}
use Rattle.regulator_main.specs.Runs.{load_fault_text}
use Rattle.regulator_main.specs.Wires.{Wires, wires_of, OthersStay}

-- the third and the second update of the load are planned to be refused, the fifth of worker 1, and the first of worker 2
abbrev plan : Refusals
plan = (0, 3) ∷ (1, 5) ∷ (0, 2) ∷ (2, 1) ∷ []

-- the least number counts, and not the one that is named first: of three or five updates one is made
stops_at_second : planned_stop (is_planned plan 0) 3 ≡ Some 1
stops_at_second = refl

stops_of_five : planned_stop (is_planned plan 0) 5 ≡ Some 1
stops_of_five = refl

-- a load of one update comes to its end, and so does one of none
one_is_made : planned_stop (is_planned plan 0) 1 ≡ None
one_is_made = refl

none_is_made : planned_stop (is_planned plan 0) 0 ≡ None
none_is_made = refl

-- the last update of a load may be the one that is refused, and the very first one
stops_at_last : planned_stop (is_planned plan 0) 2 ≡ Some 1
stops_at_last = refl

stops_at_once : planned_stop (is_planned plan 2) 4 ≡ Some 0
stops_at_once = refl

-- a number beyond the updates stops nothing, nor does one of another worker
beyond : planned_stop (is_planned plan 1) 4 ≡ None
beyond = refl

stops_at_fifth : planned_stop (is_planned plan 1) 5 ≡ Some 4
stops_at_fifth = refl

another_worker : planned_stop (is_planned plan 3) 9 ≡ None
another_worker = refl

-- two writes, of a selector and an on bit
abbrev selects : Write
selects = record { chip = 0; reg = 0x10; mask = 0x7f; bits = 0x30 }

abbrev switches : Write
switches = record { chip = 0; reg = 0x20; mask = 0x01; bits = 0x01 }

abbrev two_writes : List Write
two_writes = selects ∷ switches ∷ []

-- a lab whose load wire took these updates, with so many faults of it
abbrev lab_with : ℕ → Updates → Wires
lab_with faults updates = wires_of (λ n. if n == 0 then faults else 7) (λ n. if n == 0 then Some updates else None)

others_stay : (faults faults' : ℕ) (updates updates' : Updates) → OthersStay 0 (lab_with faults updates) (lab_with faults' updates')
others_stay faults faults' updates updates' = record {
  counts = λ n apart. let test : eqb n 0 ≡ false = ne_eqb n 0 apart in rw test refl;
  lists = λ n apart. let test : eqb n 0 ≡ false = ne_eqb n 0 apart in rw test refl;
}

-- both are made where neither is planned to be refused
both_made : BringsUp two_writes ((0, 3) ∷ (1, 1) ∷ []) (lab_with 4 []) (lab_with 4 (map update_of two_writes))
both_made = record { told = refl; unplanned = refl; calm = refl; others = others_stay 4 4 [] (map update_of two_writes) }

not_if_planned : BringsUp two_writes ((0, 2) ∷ []) (lab_with 4 []) (lab_with 4 (map update_of two_writes)) → ⊥
not_if_planned brought = absurd (cc brought.unplanned)

-- the second is refused by the plan, without a fault of the lab
stopped_by_plan : StopsLoad two_writes ((0, 2) ∷ []) 0 0x20 (lab_with 4 []) (lab_with 4 (map update_of (selects ∷ [])))
stopped_by_plan = record {
  made = 1;
  write = switches;
  next = refl;
  place = (refl, refl);
  told = refl;
  unplanned = refl;
  why = inl refl;
  others = others_stay 4 4 [] (map update_of (selects ∷ []));
}

-- or by the lab, which counts it
stopped_by_lab : StopsLoad two_writes [] 0 0x20 (lab_with 4 []) (lab_with 5 (map update_of (selects ∷ [])))
stopped_by_lab = record {
  made = 1;
  write = switches;
  next = refl;
  place = (refl, refl);
  told = refl;
  unplanned = refl;
  why = inr (omega arith);
  others = others_stay 4 5 [] (map update_of (selects ∷ []));
}

-- without either it isn't stopped
not_without_cause : StopsLoad two_writes [] 0 0x20 (lab_with 4 []) (lab_with 4 (map update_of (selects ∷ []))) → ⊥
not_without_cause stop = elim stop.why [
  | inl planned ↦ absurd (cc planned)
  | inr rose ↦ absurd (omega (arith, rose))
]

-- two scripts, and an empty one between them
abbrev first_calls : List Call
first_calls = Open a (rail 0) false ∷ Set a 800000 850000 ∷ []

abbrev third_calls : List Call
third_calls = Open b (rail 0) true ∷ Get b ∷ []

-- each call has the number of its worker, and a worker without calls is counted too
turns_from_1 : turns 1 (first_calls ∷ [] ∷ third_calls ∷ []) ≡ (1, Open a (rail 0) false) ∷ (1, Set a 800000 850000) ∷ (3, Open b (rail 0) true) ∷ (3, Get b) ∷ []
turns_from_1 = refl

turns_from_4 : turns 4 (third_calls ∷ first_calls ∷ []) ≡ (4, Open b (rail 0) true) ∷ (4, Get b) ∷ (5, Open a (rail 0) false) ∷ (5, Set a 800000 850000) ∷ []
turns_from_4 = refl

turns_of_none : turns 1 [] ≡ []
turns_of_none = refl

turns_of_one : turns_of 7 third_calls ≡ (7, Open b (rail 0) true) ∷ (7, Get b) ∷ []
turns_of_one = refl

-- the chip is told as it is counted, and its register in two digits of sixteen
fault_of_first_chip : load_fault_text 0 0x12 ≡ lines (codes "loadfault 0 0x12" ∷ [])
unfolding digits
fault_of_first_chip = refl

fault_of_tenth_chip : load_fault_text 10 0x0a ≡ lines (codes "loadfault 10 0x0a" ∷ [])
unfolding digits
fault_of_tenth_chip = refl

fault_of_last_register : load_fault_text 1 0xff ≡ lines (codes "loadfault 1 0xff" ∷ [])
unfolding digits
fault_of_last_register = refl
