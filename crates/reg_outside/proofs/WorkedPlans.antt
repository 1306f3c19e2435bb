-- plans to refuse calls, and what stands in them, worked out by hand: the calls 5 and 2 are refused
use Rattle.std.proofs.Common.{ℕ, ◌≡◌, ◌≢◌, ◌≤◌, true, false, [], ◌∷◌, Some, None, nat_eq, refl, sym, ap, ◌∙◌, arith, inl, inr, lit<, lit≤}
use Rattle.std.proofs.Math.Path.{fun_ext}
use Rattle.std.specs.Prelude.{count_by}
use Rattle.std.specs.List.{list_any, range_with_len}
use Rattle.std.specs.FinSet.{from_list, contains-from_list_nat}
use Rattle.std.proofs.lemmas.Bool.{ne_eqb, false≢true, cases_lt}
use Rattle.std.proofs.lemmas.List.Sorted.{IsPermutation-reverse}
use Rattle.reg_outside.specs.Plan.{Plan, plan_of, refuses, RefusesNext, after_a_call, RefusesNone, RefusesNoneOfNext, RefusedNone, refused_of, HasSmallNumbers, next_plan, IsPlanned, ArePlannedSmall}
use Rattle.reg_outside.specs.Count.{raised}
use Rattle.reg_outside.specs.Planned.{count_of, PassesNext}
use Rattle.reg_outside.specs.MemWire.{WireState, AcceptsNext}
use Rattle.reg_outside.specs.MemSink.{SinkState, TakesNext}
use Rattle.reg_outside.specs.MemLab.{LabState, faults_under, list_under, room_under}
use Rattle.reg_outside.proofs.Plans.{from_list-IsPermutation, HasSmallNumbers-plan_of}

-- after so many calls
abbrev after : ℕ → Plan
after calls = record { tried = calls; numbers = from_list (5 ∷ 2 ∷ []) }

-- a plan to refuse one call, after so many
abbrev alone : ℕ → ℕ → Plan
alone number calls = record { tried = calls; numbers = from_list (number ∷ []) }

two : (calls : ℕ) → refuses (after calls) 2 ≡ true
two calls = contains-from_list_nat (5 ∷ 2 ∷ []) 2

five : (calls : ℕ) → refuses (after calls) 5 ≡ true
five calls = contains-from_list_nat (5 ∷ 2 ∷ []) 5

other : (calls number : ℕ) → number ≢ 2 → number ≢ 5 → refuses (after calls) number ≡ false
other calls number no_two no_five =
    contains-from_list_nat (5 ∷ 2 ∷ []) number
    ∙ rw (ne_eqb 5 number (λ is. no_five (sym is)), ne_eqb 2 number (λ is. no_two (sym is))) refl

order_is_nothing : plan_of (5 ∷ 2 ∷ []) ≡ plan_of (2 ∷ 5 ∷ [])
order_is_nothing = ap (λ numbers. let plan : Plan = record { tried = 0; numbers = numbers } in plan) (from_list-IsPermutation _ _ (IsPermutation-reverse (2 ∷ 5 ∷ [])))

one_call_later : after_a_call (after 1) ≡ after 2
one_call_later = refl

second_is_refused : RefusesNext (after 1)
second_is_refused = two 1

first_is_not : RefusesNext (after 0) → ⊥
first_is_not refused = false≢true (sym (other 0 1 (omega arith) (omega arith)) ∙ refused)

third_is_not : RefusesNext (after 2) → ⊥
third_is_not refused = false≢true (sym (other 2 3 (omega arith) (omega arith)) ∙ refused)

no_number_refuses_none : RefusesNone (plan_of [])
no_number_refuses_none number = contains-from_list_nat [] number

two_numbers_refuse_some : RefusesNone (after 0) → ⊥
two_numbers_refuse_some none = false≢true (sym (none 2) ∙ two 0)

third_and_fourth_are_not : RefusesNoneOfNext (after 2) 2
third_and_fourth_are_not number above within = other 2 number (omega arith) (omega arith)

fifth_is : RefusesNoneOfNext (after 2) 3 → ⊥
fifth_is none = false≢true (sym (none 5 (lit< tt) (lit≤ tt)) ∙ five 2)

first_was_not_refused : RefusedNone (after 1)
first_was_not_refused number some within = other 1 number (omega arith) (omega arith)

second_was : RefusedNone (after 2) → ⊥
second_was none = false≢true (sym (none 2 (lit< tt) (lit≤ tt)) ∙ two 2)

no_call_has_number_0 : RefusedNone (alone 0 1)
no_call_has_number_0 number some within = contains-from_list_nat (0 ∷ []) number ∙ rw (ne_eqb 0 number (omega arith)) refl

counted : (calls : ℕ) → refused_of (after calls) ≡ count_by (λ number. list_any (λ n. nat_eq n number) (5 ∷ 2 ∷ [])) (range_with_len 1 calls)
unfolding refused_of
counted calls = ap (λ p. count_by p (range_with_len 1 calls)) (fun_ext (contains-from_list_nat (5 ∷ 2 ∷ [])))

none_of_one : refused_of (after 1) ≡ 0
none_of_one = counted 1

one_of_four : refused_of (after 4) ≡ 1
one_of_four = counted 4

two_of_six : refused_of (after 6) ≡ 2
two_of_six = counted 6

greatest_number_is_small : HasSmallNumbers (alone 4294967295 0)
greatest_number_is_small = HasSmallNumbers-plan_of (4294967295 ∷ []) (λ k within. elim (cases_lt 0 k) [
  | inl past ↦ absurd (omega arith)
  | inr first ↦ let zero : k ≡ 0 = omega arith in rw zero (lit< tt)
])

next_number_is_not : HasSmallNumbers (alone 4294967296 0) → ⊥
next_number_is_not small = let most = small 4294967296 (contains-from_list_nat (4294967296 ∷ []) 4294967296) in omega arith

told_plan_goes_on : next_plan (Some (after 1)) ≡ Some (after 2)
told_plan_goes_on = refl

untold_plan_stays_untold : next_plan None ≡ None
untold_plan_stays_untold = refl

told_second_is_planned : IsPlanned (Some (after 1))
told_second_is_planned = two 1

told_first_is_not : IsPlanned (Some (after 0)) → ⊥
told_first_is_not = first_is_not

untold_is_not : IsPlanned None → ⊥
untold_is_not planned = planned

told_numbers_are_small : ArePlannedSmall (Some (alone 4294967295 0))
told_numbers_are_small = greatest_number_is_small

told_number_is_not_small : ArePlannedSmall (Some (alone 4294967296 0)) → ⊥
told_number_is_not_small = next_number_is_not

-- a wire that is seen as its count of faults alone
faults_of_both : count_of (λ faults. faults) (record { inner = 3; plan = after 4 }) ≡ 4
faults_of_both = ap (raised 3) one_of_four

-- a wire that is seen as its room alone
passes_two : PassesNext (λ room updates. updates ≤ room) (record { inner = 2; plan = after 2 }) 2
passes_two = (third_and_fourth_are_not, lit≤ tt)

planned_does_not_pass : PassesNext (λ room updates. updates ≤ room) (record { inner = 9; plan = after 2 }) 3 → ⊥
planned_does_not_pass passes = fifth_is passes.0

beyond_room_does_not_pass : PassesNext (λ room updates. updates ≤ room) (record { inner = 1; plan = after 2 }) 2 → ⊥
beyond_room_does_not_pass passes = let few = passes.1 in omega arith

-- a wire that has accepted one update, with room for three
abbrev wire : ℕ → WireState
wire calls = record { accepted = (0, 16, 127, 9) ∷ []; room = 3; updates = after calls; faults = calls }

two_more_fit : AcceptsNext (wire 2) 2
two_more_fit = (third_and_fourth_are_not, lit≤ tt)

planned_is_not_accepted : AcceptsNext (wire 1) 1 → ⊥
planned_is_not_accepted accepts = false≢true (sym (accepts.0 2 (lit< tt) (lit≤ tt)) ∙ two 1)

three_more_do_not_fit : AcceptsNext (record { accepted = (0, 16, 127, 9) ∷ []; room = 3; updates = after 6; faults = 0 }) 3 → ⊥
three_more_do_not_fit accepts = let few = accepts.1 in omega arith

-- a sink that has taken one byte, with room for three
abbrev sink : ℕ → SinkState
sink calls = record { bytes = 97 ∷ []; room = 3; writes = after calls; faults = 0 }

two_more_bytes_fit : TakesNext (sink 2) 2
two_more_bytes_fit = (third_and_fourth_are_not, lit≤ tt)

planned_is_not_taken : TakesNext (sink 1) 1 → ⊥
planned_is_not_taken takes = false≢true (sym (takes.0 2 (lit< tt) (lit≤ tt)) ∙ two 1)

three_more_bytes_do_not_fit : TakesNext (sink 6) 3 → ⊥
three_more_bytes_do_not_fit takes = let few = takes.1 in omega arith

-- a lab of two wires
abbrev lab : LabState
lab = record { faults = 3 ∷ 4 ∷ []; lists = [] ∷ ((0, 16, 127, 9) ∷ []) ∷ []; rooms = 7 ∷ 8 ∷ [] }

faults_by_number : faults_under lab 1 ≡ 4
faults_by_number = refl

lists_by_number : list_under lab 1 ≡ (0, 16, 127, 9) ∷ []
lists_by_number = refl

rooms_by_number : room_under lab 1 ≡ 8
rooms_by_number = refl

no_more_faults : faults_under lab 2 ≡ 0
no_more_faults = refl

no_more_lists : list_under lab 2 ≡ []
no_more_lists = refl

no_more_rooms : room_under lab 2 ≡ 0
no_more_rooms = refl
