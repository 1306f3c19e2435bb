-- What a wire with a plan has tried, one update and one row more at a time.
use Rattle.std.proofs.Common.{◌≡◌, ℕ, ◌+◌, ◌<◌, ◌≤◌, Bool, true, false, Option, Some, None, refl, sym, ap, ◌∙◌, subst, inl, inr, arith, zero, suc, List, [], ◌∷◌, ◌++◌, length, take}
use Rattle.std.specs.Prelude.{IfSome, not}
use Rattle.std.proofs.lemmas.Bool.{cases_lt, false_from_ne_true, and_from, and_parts}
use Rattle.std.proofs.lemmas.List.{length-take-le}
use Rattle.reg_outside.specs.Count.{raised, count_end}
use Rattle.reg_outside.specs.Plan.{Plan, refuses, HasSmallNumbers, RefusesNoneOfNext, next_plan, IsPlanned}
use Rattle.reg_outside.proofs.CountFacts.{raised-raised}
use Rattle.plain_board.specs.Stops.{Tries, attempts, none_planned, are_in_step}
use Rattle.reg_outside.specs.Bus.{tried_more}
use Rattle.regulator_main.specs.Walk.{Tried, all_made, stopped_after}
use Rattle.regulator_main.specs.Inside.Script.{StaysInStep, all_attempts}

abbrev with_tried : Plan → ℕ → Plan
with_tried plan tried = record plan { tried = tried }

pub tried_more-zero : (plan : Option Plan) → tried_more 0 plan ≡ plan
tried_more-zero None = refl
tried_more-zero (Some plan) =
    let same : raised plan.tried 0 ≡ plan.tried = omega arith in
    ap (λ n. Some (with_tried plan n)) same

pub tried_more-tried_more : (plan : Option Plan) (m n : ℕ) → tried_more n (tried_more m plan) ≡ tried_more (m + n) plan
tried_more-tried_more None m n = refl
tried_more-tried_more (Some plan) m n = ap (λ k. Some (with_tried plan k)) (raised-raised plan.tried m n)

-- a planned number is none beyond the end of the counts
unplanned_past : (plan : Plan) (number : ℕ) → HasSmallNumbers plan → count_end < number → refuses plan number ≡ false
unplanned_past plan number small past = false_from_ne_true _ (λ planned. let most = small number planned in omega arith)

-- the numbers of the next updates, once so many more were tried
none_of_next : (plan : Plan) (more made number : ℕ) → HasSmallNumbers plan → RefusesNoneOfNext (with_tried plan (raised plan.tried more)) made
    → plan.tried + more < number → number ≤ plan.tried + more + made → refuses plan number ≡ false
none_of_next plan more made number small none above within = elim (cases_lt count_end number) [
  | inl past ↦ unplanned_past plan number small past
  | inr below ↦ none number (omega arith) (omega arith)
]

unplanned_then : (plan plan' : Option Plan) (m n made : ℕ) → m ≡ n → plan' ≡ tried_more n plan
    → IfSome plan (λ p. HasSmallNumbers p → RefusesNoneOfNext p m) → IfSome plan' (λ p. HasSmallNumbers p → RefusesNoneOfNext p made)
    → IfSome plan (λ p. HasSmallNumbers p → RefusesNoneOfNext p (m + made))
unplanned_then None plan' m n made same later first then = tt
unplanned_then (Some plan) plan' m n made same later first then = λ small number above within.
    let next : HasSmallNumbers plan → RefusesNoneOfNext (with_tried plan (raised plan.tried n)) made =
    subst (λ o. IfSome o (λ p. HasSmallNumbers p → RefusesNoneOfNext p made)) later then in
    elim (cases_lt (plan.tried + m) number) [
      | inl more ↦ none_of_next plan n made number small (next small) (omega arith) (omega arith)
      | inr few ↦ first small number above few
    ]

none_made : (plan : Option Plan) → IfSome plan (λ p. HasSmallNumbers p → RefusesNoneOfNext p 0)
none_made None = tt
none_made (Some plan) = λ small number above within. absurd (omega arith)

-- nothing was tried
pub tried_none : (plan : Option Plan) → Tried (all_made 0) plan plan
tried_none plan = record { counted = sym (tried_more-zero plan); unplanned = none_made plan }

-- some updates were made, and then more were tried
tried_then : (made : ℕ) (tries : Tries) (plan plan' plan'' : Option Plan) → Tried (all_made made) plan plan' → Tried tries plan' plan''
    → Tried (record { made = made + tries.made; stopped = tries.stopped }) plan plan''
tried_then made tries plan plan' plan'' first then = record {
  counted = then.counted ∙ ap (tried_more (attempts tries)) first.counted ∙ tried_more-tried_more plan (attempts (all_made made)) (attempts tries)
      ∙ ap (λ n. tried_more n plan) (omega arith);
  unplanned = unplanned_then plan plan' made (attempts (all_made made)) tries.made (omega arith) first.counted first.unplanned then.unplanned;
}

-- one update more was made
pub tried_one_more : (made : ℕ) (plan plan' plan'' : Option Plan) → Tried (all_made made) plan plan' → Tried (all_made 1) plan' plan'' → Tried (all_made (made + 1)) plan plan''
tried_one_more made plan plan' plan'' first then = tried_then made (all_made 1) plan plan' plan'' first then

-- some updates were made, and the next one was refused
pub tried_stop : (made : ℕ) (plan plan' plan'' : Option Plan) → Tried (all_made made) plan plan' → Tried (stopped_after 0) plan' plan'' → Tried (stopped_after made) plan plan''
tried_stop made plan plan' plan'' first then =
    let same : made + 0 ≡ made = omega arith in
    subst (λ n. Tried (stopped_after n) plan plan'') same (tried_then made (stopped_after 0) plan plan' plan'' first then)

not_next : (plan : Option Plan) → ¬ IsPlanned plan → IfSome plan (λ p. HasSmallNumbers p → RefusesNoneOfNext p 1)
not_next None other = tt
not_next (Some plan) other = λ small number above within.
    let next : number ≡ plan.tried + 1 = omega arith in
    ap (refuses plan) next ∙ false_from_ne_true _ other

-- no move was to be made
pub tried_still : {X : Type 0} (moves : List X) (plan : Option Plan) → moves ≡ [] → Tried (all_made (length moves)) plan plan
tried_still moves plan none = subst (λ xs. Tried (all_made (length xs)) plan plan) (sym none) (tried_none plan)

-- the first of the moves were made, and the next one was refused
pub tried_first : {X : Type 0} (made : ℕ) (moves : List X) (plan plan' : Option Plan) → made < length moves → Tried (stopped_after made) plan plan' → Tried (stopped_after (length (take made moves))) plan plan'
tried_first made moves plan plan' within tried =
    subst (λ n. Tried (stopped_after n) plan plan') (sym (length-take-le made moves (omega arith))) tried

-- an update that was taken was not planned to be refused
pub tried_taken : (plan plan' : Option Plan) → plan' ≡ next_plan plan → ¬ IsPlanned plan → Tried (all_made 1) plan plan'
tried_taken plan plan' later other = record { counted = later; unplanned = not_next plan other }

-- an update that was refused
pub tried_refused : (plan plan' : Option Plan) → plan' ≡ next_plan plan → Tried (stopped_after 0) plan plan'
tried_refused plan plan' later = record { counted = later; unplanned = none_made plan }

-- where none of the next numbers is planned, the test says so
none_planned-true : (planned : ℕ → Bool) (before made : ℕ) → ((number : ℕ) → before < number → number ≤ before + made → planned number ≡ false) → none_planned planned before made ≡ true
none_planned-true planned before zero none = refl
none_planned-true planned before (suc made) none =
    and_from (not (planned (before + 1))) (none_planned planned (before + 1) made) (ap not (none (before + 1) (omega arith) (omega arith)))
    (none_planned-true planned (before + 1) made (λ number above within. none number (omega arith) (omega arith)))

all_attempts-push : (ts : List Tries) (t : Tries) → all_attempts (ts ++ t ∷ []) ≡ all_attempts ts + attempts t
all_attempts-push [] t = omega arith
all_attempts-push (x ∷ ts) t = let rest = all_attempts-push ts t in omega arith

are_in_step-push : (planned : ℕ → Bool) (before : ℕ) (ts : List Tries) (t : Tries) → are_in_step planned before ts ≡ true → none_planned planned (before + all_attempts ts) t.made ≡ true → are_in_step planned before (ts ++ t ∷ []) ≡ true
are_in_step-push planned before [] t all next =
    let same : before + 0 ≡ before = omega arith in
    and_from _ true (ap (λ n. none_planned planned n t.made) (sym same) ∙ next) refl
are_in_step-push planned before (x ∷ ts) t all next =
    let parts = and_parts (none_planned planned before x.made) (are_in_step planned (before + attempts x) ts) all in
    let same : before + attempts x + all_attempts ts ≡ before + (attempts x + all_attempts ts) = omega arith in
    and_from (none_planned planned before x.made) (are_in_step planned (before + attempts x) (ts ++ t ∷ [])) parts.0
    (are_in_step-push planned (before + attempts x) ts t parts.1 (ap (λ n. none_planned planned n t.made) same ∙ next))

in_step_more : (plan plan' : Option Plan) (ts : List Tries) (t : Tries) → plan' ≡ tried_more (all_attempts ts) plan
    → IfSome plan (λ p. HasSmallNumbers p → are_in_step (refuses p) p.tried ts ≡ true) → IfSome plan' (λ p. HasSmallNumbers p → RefusesNoneOfNext p t.made)
    → IfSome plan (λ p. HasSmallNumbers p → are_in_step (refuses p) p.tried (ts ++ t ∷ []) ≡ true)
in_step_more None plan' ts t later all then = tt
in_step_more (Some plan) plan' ts t later all then = λ small.
    let next : HasSmallNumbers plan → RefusesNoneOfNext (with_tried plan (raised plan.tried (all_attempts ts))) t.made =
    subst (λ o. IfSome o (λ p. HasSmallNumbers p → RefusesNoneOfNext p t.made)) later then in
    are_in_step-push (refuses plan) plan.tried ts t (all small)
    (none_planned-true (refuses plan) (plan.tried + all_attempts ts) t.made (λ number above within. none_of_next plan (all_attempts ts) t.made number small (next small) above within))

-- no row was tried yet
pub stays_none : (plan : Option Plan) → StaysInStep [] plan plan
stays_none plan = record { counted = sym (tried_more-zero plan); in_step = none_yet plan } where
  none_yet : (plan : Option Plan) → IfSome plan (λ p. HasSmallNumbers p → are_in_step (refuses p) p.tried [] ≡ true)
  none_yet None = tt
  none_yet (Some plan) = λ small. refl

-- one row more
pub stays_more : (ts : List Tries) (t : Tries) (plan plan' plan'' : Option Plan) → StaysInStep ts plan plan' → Tried t plan' plan'' → StaysInStep (ts ++ t ∷ []) plan plan''
stays_more ts t plan plan' plan'' stays then = record {
  counted = then.counted ∙ ap (tried_more (attempts t)) stays.counted ∙ tried_more-tried_more plan (all_attempts ts) (attempts t) ∙ ap (λ n. tried_more n plan) (sym (all_attempts-push ts t));
  in_step = in_step_more plan plan' ts t stays.counted stays.in_step then.unplanned;
}
