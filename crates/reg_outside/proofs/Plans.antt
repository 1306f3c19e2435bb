-- how many of the calls tried so far were refused, call by call
use Rattle.std.proofs.Common.{◌≡◌, ℕ, ◌+◌, ◌<◌, ◌≤◌, Bool, false, cond, List, [], ◌∷◌, ◌++◌, length, get_or, min, refl, sym, ◌∙◌, ap, subst, inl, inr, arith, add-zero, zero-add, add-one, nat_eq, ◌-◌}
use Rattle.std.specs.Cmp.{nat_cmp_total}
use Rattle.std.specs.Result.{is_ok}
use Rattle.std.proofs.lemmas.List.{get_or_default}
use Rattle.std.specs.FinSet.{contains, from_list, same_set, contains-from_list_nat, nat_cmp-IsAntisymmetric}
use Rattle.std.specs.Ordering.{nat_cmp}
use Rattle.std.specs.Prelude.{count_by, suc, zero, Result, Ok, Err}
use Rattle.std.specs.List.{list_any, range_with_len}
use Rattle.std.specs.List.Sorted.{IsPermutation, IsNonDecreasing, IsBinarySearchResult}
use Rattle.std.proofs.lemmas.Bool.{cases_lt, false≢true, false_from_ne_true, eq-eqb, ne_eqb}
use Rattle.std.proofs.lemmas.List.Folds.{list_any_at, list_any_none}
use Rattle.std.proofs.lemmas.List.FromFn.{length-range_with_len}
use Rattle.std.proofs.lemmas.List.Sorted.{list_any-IsPermutation, searched}
use Rattle.std.proofs.lemmas.List.Sums.{count_by-le-length, sum_by-append}
use Rattle.reg_outside.specs.Count.{raised, Rose, count_end}
use Rattle.reg_outside.specs.Plan.{Plan, plan_of, refuses, RefusesNext, RefusesNoneOfNext, RefusedNone, HasSmallNumbers, after_a_call, refused_of}
use Rattle.reg_outside.specs.MemWire.{new_wire, AcceptsNext}
use Rattle.reg_outside.specs.Planned.{PlannedState, count_of}

-- a plan is the same whatever the order of its numbers
pub from_list-IsPermutation : (xs ys : List ℕ) → IsPermutation xs ys → from_list {R = nat_cmp} ys ≡ from_list xs
from_list-IsPermutation xs ys moved =
    same_set nat_cmp_total nat_cmp-IsAntisymmetric (from_list ys) (from_list xs)
    (λ q. contains-from_list_nat ys q ∙ sym (list_any-IsPermutation (λ y. nat_eq y q) xs ys moved) ∙ sym (contains-from_list_nat xs q))

-- the numbers of a plan are those of its list
pub refuses-plan_of : (numbers : List ℕ) (number : ℕ) → refuses (plan_of numbers) number ≡ list_any (λ n. nat_eq n number) numbers
refuses-plan_of numbers number = contains-from_list_nat numbers number

-- a number is found in a list in order exactly where it stands there
pub is_ok-searched :
    (xs : List ℕ) (x : ℕ) (r : Result ℕ ℕ) → IsBinarySearchResult (λ y. nat_cmp y x) xs r → IsNonDecreasing xs → is_ok r ≡ contains (from_list {R = nat_cmp} xs) x
is_ok-searched xs x (Ok i) answer ordered =
    let found = searched xs x (Ok i) answer (λ i j. ordered i j 0) in
    sym (contains-from_list_nat xs x ∙ list_any_at (λ y. nat_eq y x) xs i 0 found.0 (eq-eqb _ _ found.1))
is_ok-searched xs x (Err i) answer ordered =
    let missed = searched xs x (Err i) answer (λ i j. ordered i j 0) in
    let differs : (k : ℕ) → k < length xs → get_or xs k 0 ≡ x → ⊥ = λ k within is. elim (cases_lt k i) [
      | inl before ↦ let below = missed.1 k before in omega arith
      | inr behind ↦ let above = missed.2 k behind within in omega arith
    ] in
    sym (contains-from_list_nat xs x ∙ list_any_none (λ y. nat_eq y x) xs (λ k d within. ne_eqb _ _ (λ is. differs k within (get_or_default xs k 0 d within ∙ is))))

-- no number above all of a list stands there
pub contains-above :
    (xs : List ℕ) (x : ℕ) → ((k : ℕ) → k < length xs → get_or xs k 0 < x) → contains (from_list {R = nat_cmp} xs) x ≡ false
contains-above xs x below =
    contains-from_list_nat xs x
    ∙ list_any_none (λ y. nat_eq y x) xs (λ k d within. ne_eqb _ _ (λ is. let less = below k within in let same = get_or_default xs k 0 d within ∙ is in omega arith))

-- the numbers of a list whose items are small are small
pub HasSmallNumbers-plan_of : (xs : List ℕ) → ((k : ℕ) → k < length xs → get_or xs k 0 < 4294967296) → HasSmallNumbers (plan_of xs)
HasSmallNumbers-plan_of xs small number planned =
    elim (cases_lt 4294967295 number) [
      | inl above ↦ absurd (false≢true (sym (contains-above xs number (λ k within. let less = small k within in omega arith)) ∙ planned))
      | inr below ↦ below
    ]

-- the numbers up to the next one are those before it, and it
range-more : (a n : ℕ) → range_with_len a (suc n) ≡ range_with_len a n ++ (a + n) ∷ []
range-more a zero = ap (λ k. k ∷ []) (sym (add-zero a))
range-more a (suc n) =
    let next : a + 1 + n ≡ a + suc n = omega arith in
    ap (λ ks. a ∷ ks) (range-more (a + 1) n) ∙ ap (λ k. a ∷ (range_with_len (a + 1) n ++ k ∷ [])) next

-- one more number counted
count_by-range : (p : ℕ → Bool) (a n : ℕ) → count_by p (range_with_len a (suc n)) ≡ count_by p (range_with_len a n) + cond (p (a + n)) 1 0
count_by-range p a n =
    ap (count_by p) (range-more a n)
    ∙ sum_by-append (λ k. cond (p k) 1 0) (range_with_len a n) ((a + n) ∷ [])
    ∙ ap (λ k. count_by p (range_with_len a n) + k) (zero-add (cond (p (a + n)) 1 0))

count_by-tried : (p : ℕ → Bool) (n : ℕ) → count_by p (range_with_len 1 (n + 1)) ≡ count_by p (range_with_len 1 n) + cond (p (n + 1)) 1 0
count_by-tried p n =
    let same : 1 + n ≡ n + 1 = omega arith in
    ap (λ k. count_by p (range_with_len 1 k)) (add-one n)
    ∙ count_by-range p 1 n
    ∙ ap (λ k. count_by p (range_with_len 1 n) + cond (p k) 1 0) same

-- no more were refused than were tried
pub refused_of-le : (plan : Plan) → refused_of plan ≤ plan.tried
unfolding refused_of
refused_of-le plan = subst (λ n. refused_of plan ≤ n) (length-range_with_len 1 plan.tried) (count_by-le-length (refuses plan) (range_with_len 1 plan.tried))

raised-below : (n : ℕ) → n < count_end → raised n 1 ≡ n + 1
raised-below n below = omega arith

raised-past : (n : ℕ) → count_end ≤ n → raised n 1 ≡ n
raised-past n past = omega arith

-- a planned number is not beyond the end of the count of calls
next_is_below : (plan : Plan) → HasSmallNumbers plan → RefusesNext plan → plan.tried < count_end
next_is_below plan small planned = let most = small (plan.tried + 1) planned in omega (arith, most)

-- a planned call is one more that was refused
pub refused_of-planned : (plan : Plan) → HasSmallNumbers plan → RefusesNext plan → refused_of (after_a_call plan) ≡ refused_of plan + 1
unfolding refused_of
refused_of-planned plan small planned =
    ap (λ n. count_by (refuses plan) (range_with_len 1 n)) (raised-below plan.tried (next_is_below plan small planned))
    ∙ count_by-tried (refuses plan) plan.tried
    ∙ ap (λ b. count_by (refuses plan) (range_with_len 1 plan.tried) + cond b 1 0) planned

-- any other call is none
pub refused_of-other : (plan : Plan) → ¬ RefusesNext plan → refused_of (after_a_call plan) ≡ refused_of plan
unfolding refused_of
refused_of-other plan other =
    elim (cases_lt plan.tried count_end) [
      | inl below ↦
          ap (λ n. count_by (refuses plan) (range_with_len 1 n)) (raised-below plan.tried below)
          ∙ count_by-tried (refuses plan) plan.tried
          ∙ ap (λ b. count_by (refuses plan) (range_with_len 1 plan.tried) + cond b 1 0) (false_from_ne_true _ other)
          ∙ add-zero _
      | inr past ↦ ap (λ n. count_by (refuses plan) (range_with_len 1 n)) (raised-past plan.tried past)
    ]

-- no number from the first on is counted where none passes
count_by-none : (p : ℕ → Bool) (n : ℕ) → ((k : ℕ) → 0 < k → k ≤ n → p k ≡ false) → count_by p (range_with_len 1 n) ≡ 0
count_by-none p zero none = refl
count_by-none p (suc n) none =
    let last : p (1 + n) ≡ false = none (1 + n) (omega arith) (omega arith) in
    count_by-range p 1 n
    ∙ ap (λ b. count_by p (range_with_len 1 n) + cond b 1 0) last
    ∙ add-zero _
    ∙ count_by-none p n (λ k some few. none k some (omega arith))

-- where no planned number was tried, nothing was refused
pub refused_of-none : (plan : Plan) → RefusedNone plan → refused_of plan ≡ 0
unfolding refused_of
refused_of-none plan none = count_by-none (refuses plan) plan.tried none

-- then the faults are those of the wire inside
pub count_of-inner : {W : Type 0} (faults : W → ℕ) (planned : PlannedState W) → RefusedNone planned.plan → count_of faults planned ≡ faults planned.inner
count_of-inner faults planned none =
    ap (raised (faults planned.inner)) (refused_of-none planned.plan none)
    ∙ omega arith

-- a call that is not refused leaves one fewer of those that are not
pub RefusesNoneOfNext-after : (plan : Plan) (calls : ℕ) → RefusesNoneOfNext plan calls → RefusesNoneOfNext (after_a_call plan) (calls - 1)
RefusesNoneOfNext-after plan calls none = λ number above within. none number (omega arith) (omega arith)

-- the next call is not refused where one at the least isn't
pub RefusesNoneOfNext-next : (plan : Plan) (calls : ℕ) → RefusesNoneOfNext plan calls → 0 < calls → RefusesNext plan → ⊥
RefusesNoneOfNext-next plan calls none some planned =
    let passed : refuses plan (plan.tried + 1) ≡ false = none (plan.tried + 1) (omega arith) (omega arith) in
    absurd (false≢true (sym passed ∙ planned))

-- a wire that has seen no update and is to refuse none accepts as many as it has room for
pub AcceptsNext-new_wire : (room updates : ℕ) → updates ≤ room → AcceptsNext (new_wire room []) updates
AcceptsNext-new_wire room updates within = (λ number above below. contains-from_list_nat [] number, omega arith)

-- the number of the next call is among small numbers exactly where the count of calls, at its end, is
pub contains-next :
    (xs : List ℕ) (tried number : ℕ) → ((k : ℕ) → k < length xs → get_or xs k 0 < 4294967296) → number ≡ min (tried + 1) count_end
    → contains (from_list {R = nat_cmp} xs) number ≡ contains (from_list {R = nat_cmp} xs) (tried + 1)
contains-next xs tried number small is =
    elim (cases_lt tried count_end) [
      | inl below ↦ let same : number ≡ tried + 1 = omega arith in ap (contains (from_list {R = nat_cmp} xs)) same
      | inr past ↦
          contains-above xs number (λ k within. let less = small k within in omega arith)
          ∙ sym (contains-above xs (tried + 1) (λ k within. let less = small k within in omega arith))
    ]

-- a count of refusals, one more after a planned call, is still what was refused
pub refusals_counted :
    (plan : Plan) (refusals after : ℕ) → HasSmallNumbers plan → RefusesNext plan → refusals ≡ refused_of plan → after ≡ min (refusals + 1) count_end
    → after ≡ refused_of (after_a_call plan)
refusals_counted plan refusals after small planned counted is =
    let below : plan.tried < count_end = next_is_below plan small planned in
    let few : refused_of plan ≤ plan.tried = refused_of-le plan in
    let more : refused_of (after_a_call plan) ≡ refused_of plan + 1 = refused_of-planned plan small planned in
    omega arith

-- one more refusal of its own raises the count of a wire in a plan
pub Rose-own : (faults refused refused' : ℕ) → refused' ≡ refused + 1 → Rose (raised faults refused) (raised faults refused')
Rose-own faults refused refused' more = omega arith

-- so does a fault of the wire inside
pub Rose-inside : (faults faults' refused : ℕ) → Rose faults faults' → Rose (raised faults refused) (raised faults' refused)
Rose-inside faults faults' refused rose = omega arith
