-- What the load leaves, from what its wire was told.
use Rattle.std.proofs.Common.{◌≡◌, ◌≢◌, ◌⊎◌, ℕ, ◌+◌, ◌<◌, ◌≤◌, zero, suc, Bool, true, false, cond, eqb, List, Option, Some, None, length, map, take, refl, sym, subst, ap, ◌∙◌, inl, inr, arith}
use Rattle.std.specs.Prelude.{find, option_and_then}
use Rattle.std.specs.List.{list_any, range_with_len}
use Rattle.std.specs.Option.{option_map}
use Rattle.std.proofs.lemmas.Bool.{cases_lt}
use Rattle.std.proofs.lemmas.List.{length-take-le}
use Rattle.std.proofs.lemmas.Option.{slice_get_within}
use Rattle.reg_outside.specs.Count.{raised, Rose}
use Rattle.reg_outside.specs.Plan.{Plan, plan_of, refuses, RefusesNoneOfNext, RefusedNone}
use Rattle.reg_outside.specs.Planned.{PlannedState, count_of}
use Rattle.reg_outside.specs.Told.{StartsEmpty, with_more}
use Rattle.reg_outside.proofs.Plans.{refuses-plan_of, count_of-inner}
use Rattle.board.specs.declared.write.Write.{Write}
use Rattle.reg_outside.specs.Bus.{Updates, Bus}
use Rattle.plain_board.specs.Update.{update_of}
use Rattle.board_load.specs.BringUp.{TookAll, StoppedAt}
use Rattle.plain_board.specs.Stops.{Refusals, is_planned}
use Rattle.regulator_main.specs.Bringing.{planned_stop, ToldLoad, BringsUp, StopsLoad}
use Rattle.regulator_main.specs.Wires.{Wires, OthersStay}

-- these are the numbers of the updates of the load that are planned to be refused
abbrev pub AreNumbers : List ℕ → Refusals → Type 0
AreNumbers numbers refusals = (number : ℕ) → list_any (λ planned. eqb planned number) numbers ≡ is_planned refusals 0 number

-- a plan of these refuses what is planned for the load
refuses_planned : (refusals : Refusals) (numbers : List ℕ) (number : ℕ) → AreNumbers numbers refusals → refuses (plan_of numbers) number ≡ is_planned refusals 0 number
refuses_planned refusals numbers number are = refuses-plan_of numbers number ∙ are number

find_none : (p : ℕ → Bool) (a n : ℕ) → ((k : ℕ) → a ≤ k → k < a + n → p k ≡ false) → find p (range_with_len a n) ≡ None
find_none p a zero none = refl
find_none p a (suc n) none =
    ap (λ t. cond t (Some a) (find p (range_with_len (a + 1) n))) (none a (omega arith) (omega arith))
    ∙ find_none p (a + 1) n (λ k from to. none k (omega arith) (omega arith))

-- where none of so many updates is refused, none of them is where a load stops
no_stop : (refusals : Refusals) (numbers : List ℕ) (made : ℕ) → AreNumbers numbers refusals → RefusesNoneOfNext (plan_of numbers) made → planned_stop (is_planned refusals 0) made ≡ None
no_stop refusals numbers made are none =
    find_none (λ k. is_planned refusals 0 (k + 1)) 0 made
    (λ k from to. sym (refuses_planned refusals numbers (k + 1) are) ∙ none (k + 1) (omega arith) (omega arith))

-- a list that was kept empty has what was told since
told_load : (list start end : Option Updates) (more : Updates) → StartsEmpty list start → end ≡ with_more start more → option_and_then (λ _. end) list ≡ option_map (λ _. more) list
told_load None start end more empty told = refl
told_load (Some before) start end more empty told = told ∙ ap (λ s. with_more s more) empty

same_plan : (p q : Plan) → Some p ≡ Some q → p ≡ q
same_plan p q is = cc

-- the wire 0 of a lab was put into the plan of the load, and what was inside came back
pub record ComesBack {W : Type 0} (faults : W → ℕ) (accepted : W → Option Updates) (refusals : Refusals) (numbers : List ℕ) (before mid after : Wires) (wire : W) (start planned : PlannedState W) (inner : W) : Type 0 where
  pub numbers_are : AreNumbers numbers refusals
  pub no_fault : faults wire ≡ 0
  pub empty : StartsEmpty (before.lists 0) (accepted wire)
  pub counts_stay : (n : ℕ) → mid.counts n ≡ before.counts n
  pub lists_stay : (n : ℕ) → mid.lists n ≡ before.lists n
  pub made : start ≡ record { inner = wire; plan = plan_of numbers }
  pub inside : inner ≡ planned.inner
  pub counted : after.counts 0 ≡ raised (mid.counts 0) (faults inner)
  pub kept : after.lists 0 ≡ option_and_then (λ _. accepted inner) (mid.lists 0)
  pub other_counts : (n : ℕ) → n ≢ 0 → after.counts n ≡ mid.counts n
  pub other_lists : (n : ℕ) → n ≢ 0 → after.lists n ≡ mid.lists n

-- what a wire in a plan tells
abbrev pub bus_of : {W : Type 0} → (W → ℕ) → (W → Option Updates) → PlannedState W → Bus
bus_of faults accepted planned = record { taken = accepted planned.inner; plan = Some planned.plan; faults = count_of faults planned }

module _ {W : Type 0} (faults : W → ℕ) (accepted : W → Option Updates) (refusals : Refusals) (writes : List Write) (numbers : List ℕ) (before mid after : Wires) (wire : W) (start planned : PlannedState W) (inner : W)
    (back : ComesBack faults accepted refusals numbers before mid after wire start planned inner) where
  abbrev first : PlannedState W
  first = record { inner = wire; plan = plan_of numbers }

  others : OthersStay 0 before after
  others = record {
    counts = λ n apart. back.other_counts n apart ∙ back.counts_stay n;
    lists = λ n apart. back.other_lists n apart ∙ back.lists_stay n;
  }

  counted : after.counts 0 ≡ raised (before.counts 0) (faults planned.inner)
  counted = back.counted ∙ ap (λ w. raised (mid.counts 0) (faults w)) back.inside ∙ ap (λ n. raised n (faults planned.inner)) (back.counts_stay 0)

  told : (made : List Write) → accepted planned.inner ≡ with_more (accepted wire) (map update_of made) → ToldLoad made before after
  told made taken =
      back.kept ∙ ap (λ w. option_and_then (λ _. accepted w) (mid.lists 0)) back.inside ∙ ap (option_and_then (λ _. accepted planned.inner)) (back.lists_stay 0)
      ∙ told_load (before.lists 0) (accepted wire) (accepted planned.inner) (map update_of made) back.empty taken

  -- no fault is counted before the first update
  starts_at_0 : count_of faults first ≡ 0
  starts_at_0 = count_of-inner faults first (λ number above below. absurd (omega arith)) ∙ back.no_fault

  counts_calm : count_of faults planned ≡ count_of faults first → after.counts 0 ≡ before.counts 0
  counts_calm calm =
      let none : count_of faults planned ≡ 0 = calm ∙ starts_at_0 in
      let rose = counted in
      omega (arith, none, rose)

  brings_first : TookAll (bus_of faults accepted first) (bus_of faults accepted planned) writes → BringsUp writes refusals before after
  brings_first took = record {
    told = told writes took.took.taken;
    unplanned = no_stop refusals numbers (length writes) back.numbers_are took.took.unplanned;
    calm = counts_calm took.calm;
    others = others;
  }

  pub brings_up : TookAll (bus_of faults accepted start) (bus_of faults accepted planned) writes → BringsUp writes refusals before after
  brings_up took = brings_first (subst (λ (p : PlannedState W). TookAll (bus_of faults accepted p) (bus_of faults accepted planned) writes) back.made took)

  module _ (chip reg : ℕ) (stop : StoppedAt (bus_of faults accepted first) (bus_of faults accepted planned) writes chip reg) where
    length_made : length (take stop.made writes) ≡ stop.made
    length_made = let within = slice_get_within writes stop.made stop.write stop.next in length-take-le stop.made writes (omega (arith, within))

    unplanned : RefusesNoneOfNext (plan_of numbers) stop.made
    unplanned = subst (RefusesNoneOfNext (plan_of numbers)) length_made stop.took.unplanned

    -- where the refused update wasn't planned, no planned one was tried
    refused_none : is_planned refusals 0 (stop.made + 1) ≡ false → RefusedNone planned.plan
    refused_none is =
        let plan = same_plan planned.plan (record (plan_of numbers) { tried = raised 0 (stop.made + 1) }) stop.plan in
        subst RefusedNone (sym plan) (λ number above below. elim (cases_lt stop.made number) [
          | inl beyond ↦
              let last : number ≡ stop.made + 1 = omega arith in
              refuses_planned refusals numbers number back.numbers_are ∙ ap (is_planned refusals 0) last ∙ is
          | inr earlier ↦ unplanned number above (omega arith)
        ])

    why_by : (t : Bool) → is_planned refusals 0 (stop.made + 1) ≡ t → (is_planned refusals 0 (stop.made + 1) ≡ true) ⊎ Rose (before.counts 0) (after.counts 0)
    why_by true is = inl is
    why_by false is =
        let inside = count_of-inner faults planned (refused_none is) in
        let none = starts_at_0 in
        let rose = stop.rose in
        let more = counted in
        inr (omega (arith, inside, none, rose, more))

    stops_first : StopsLoad writes refusals chip reg before after
    stops_first = record {
      made = stop.made;
      write = stop.write;
      next = stop.next;
      place = stop.place;
      told = told (take stop.made writes) stop.took.taken;
      unplanned = no_stop refusals numbers stop.made back.numbers_are unplanned;
      why = why_by (is_planned refusals 0 (stop.made + 1)) refl;
      others = others;
    }

  pub stops_load : (chip reg : ℕ) → StoppedAt (bus_of faults accepted start) (bus_of faults accepted planned) writes chip reg → StopsLoad writes refusals chip reg before after
  stops_load chip reg stop = stops_first chip reg (subst (λ (p : PlannedState W). StoppedAt (bus_of faults accepted p) (bus_of faults accepted planned) writes chip reg) back.made stop)
