-- What a wire with a plan has tried, some updates more at a time.
use Rattle.std.proofs.Common.{◌≡◌, ℕ, ◌+◌, ◌<◌, ◌≤◌, true, false, Option, Some, None, refl, sym, ap, ◌∙◌, subst, inl, inr, arith}
use Rattle.std.specs.Prelude.{IfSome}
use Rattle.std.proofs.lemmas.Bool.{cases_lt, false_from_ne_true}
use Rattle.reg_outside.specs.Count.{raised, count_end}
use Rattle.reg_outside.specs.Plan.{Plan, refuses, HasSmallNumbers, RefusesNoneOfNext, next_plan, IsPlanned}
use Rattle.reg_outside.proofs.CountFacts.{raised-raised}
use Rattle.plain_board.specs.Stops.{Tries, attempts}
use Rattle.reg_outside.specs.Bus.{tried_more}
use Rattle.rail_ops.specs.Taking.{Tried}

-- so many updates were made, and none was refused
abbrev pub all_made : ℕ → Tries
all_made made = record { made = made; stopped = false }

-- so many updates were made, and then one was refused
abbrev pub stopped_after : ℕ → Tries
stopped_after made = record { made = made; stopped = true }

abbrev pub with_tried : Plan → ℕ → Plan
with_tried plan tried = record plan { tried = tried }

pub tried_more-zero : (plan : Option Plan) → tried_more 0 plan ≡ plan
tried_more-zero None = refl
tried_more-zero (Some plan) =
    let same : raised plan.tried 0 ≡ plan.tried = omega arith in
    ap (λ n. Some (with_tried plan n)) same

pub tried_more-tried_more : (plan : Option Plan) (m n : ℕ) → tried_more n (tried_more m plan) ≡ tried_more (m + n) plan
tried_more-tried_more None m n = refl
tried_more-tried_more (Some plan) m n = ap (λ k. Some (with_tried plan k)) (raised-raised plan.tried m n)

-- a planned number is none beyond the end of the counts
unplanned_past : (plan : Plan) (number : ℕ) → HasSmallNumbers plan → count_end < number → refuses plan number ≡ false
unplanned_past plan number small past = false_from_ne_true _ (λ planned. let most = small number planned in omega arith)

-- the numbers of the next updates, once so many more were tried
pub none_of_next : (plan : Plan) (more made number : ℕ) → HasSmallNumbers plan → RefusesNoneOfNext (with_tried plan (raised plan.tried more)) made
    → plan.tried + more < number → number ≤ plan.tried + more + made → refuses plan number ≡ false
none_of_next plan more made number small none above within = elim (cases_lt count_end number) [
  | inl past ↦ unplanned_past plan number small past
  | inr below ↦ none number (omega arith) (omega arith)
]

unplanned_then : (plan plan' : Option Plan) (m n made : ℕ) → m ≡ n → plan' ≡ tried_more n plan
    → IfSome plan (λ p. HasSmallNumbers p → RefusesNoneOfNext p m) → IfSome plan' (λ p. HasSmallNumbers p → RefusesNoneOfNext p made)
    → IfSome plan (λ p. HasSmallNumbers p → RefusesNoneOfNext p (m + made))
unplanned_then None plan' m n made same later first then = tt
unplanned_then (Some plan) plan' m n made same later first then = λ small number above within.
    let next : HasSmallNumbers plan → RefusesNoneOfNext (with_tried plan (raised plan.tried n)) made =
    subst (λ o. IfSome o (λ p. HasSmallNumbers p → RefusesNoneOfNext p made)) later then in
    elim (cases_lt (plan.tried + m) number) [
      | inl more ↦ none_of_next plan n made number small (next small) (omega arith) (omega arith)
      | inr few ↦ first small number above few
    ]

none_made : (plan : Option Plan) → IfSome plan (λ p. HasSmallNumbers p → RefusesNoneOfNext p 0)
none_made None = tt
none_made (Some plan) = λ small number above within. absurd (omega arith)

-- nothing was tried
pub tried_none : (plan : Option Plan) → Tried (all_made 0) plan plan
tried_none plan = record { counted = sym (tried_more-zero plan); unplanned = none_made plan }

-- some updates were made, and then more were tried
pub tried_then : (made : ℕ) (tries : Tries) (plan plan' plan'' : Option Plan) → Tried (all_made made) plan plan' → Tried tries plan' plan''
    → Tried (record { made = made + tries.made; stopped = tries.stopped }) plan plan''
tried_then made tries plan plan' plan'' first then = record {
  counted = then.counted ∙ ap (tried_more (attempts tries)) first.counted ∙ tried_more-tried_more plan (attempts (all_made made)) (attempts tries)
      ∙ ap (λ n. tried_more n plan) (omega arith);
  unplanned = unplanned_then plan plan' made (attempts (all_made made)) tries.made (omega arith) first.counted first.unplanned then.unplanned;
}

not_next : (plan : Option Plan) → ¬ IsPlanned plan → IfSome plan (λ p. HasSmallNumbers p → RefusesNoneOfNext p 1)
not_next None other = tt
not_next (Some plan) other = λ small number above within.
    let next : number ≡ plan.tried + 1 = omega arith in
    ap (refuses plan) next ∙ false_from_ne_true _ other

-- an update that was taken was not planned to be refused
pub tried_taken : (plan plan' : Option Plan) → plan' ≡ next_plan plan → ¬ IsPlanned plan → Tried (all_made 1) plan plan'
tried_taken plan plan' later other = record { counted = later; unplanned = not_next plan other }

-- an update that was refused
pub tried_refused : (plan plan' : Option Plan) → plan' ≡ next_plan plan → Tried (stopped_after 0) plan plan'
tried_refused plan plan' later = record { counted = later; unplanned = none_made plan }
