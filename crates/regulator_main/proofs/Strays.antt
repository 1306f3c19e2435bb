-- How many of the stops of a worker were planned.
use Rattle.std.proofs.Common.{◌≡◌, ℕ, ◌+◌, ◌-◌, ◌<◌, ◌≤◌, Bool, true, false, cond, Some, refl, sym, ap, ◌∙◌, subst, inl, inr, arith, zero, suc, List, [], ◌∷◌, ◌++◌, zero-add, add-zero, eqb}
use Rattle.std.specs.Prelude.{not, ◌&&◌, count_by}
use Rattle.std.specs.List.{list_all, list_any, range_with_len}
use Rattle.std.proofs.Math.Path.{fun_ext}
use Rattle.std.proofs.lemmas.Bool.{cases_lt, false_from_ne_true, and_parts, not-true}
use Rattle.std.proofs.lemmas.List.Sums.{sum_by-append, sum_by-cons}
use Rattle.std.proofs.lemmas.Option.{same_Some}
use Rattle.reg_outside.specs.Count.{raised, count_end, RoseBy}
use Rattle.reg_outside.specs.Plan.{Plan, plan_of, refuses, HasSmallNumbers, refused_of}
use Rattle.reg_outside.proofs.Plans.{refuses-plan_of}
use Rattle.plain_board.specs.Stops.{Tries, attempts, one_if, none_planned, are_in_step, strays, Refusals, is_planned}
use Rattle.regulator_main.specs.Inside.Script.{all_attempts, StaysInStep}

-- how many rows were stopped
abbrev pub stops_in : List Tries → ℕ
stops_in [] = 0
stops_in (tries ∷ rest) = one_if tries.stopped + stops_in rest

-- how many rows were stopped where it was planned
abbrev pub planned_stops : (ℕ → Bool) → ℕ → List Tries → ℕ
planned_stops planned before [] = 0
planned_stops planned before (tries ∷ rest) = one_if (tries.stopped && planned (before + tries.made + 1)) + planned_stops planned (before + attempts tries) rest

one_of : (stopped planned : Bool) → one_if (stopped && planned) + one_if (stopped && not planned) ≡ one_if stopped
one_of true true = refl
one_of true false = refl
one_of false planned = refl

-- each stop is planned or stray
planned_stops-strays : (planned : ℕ → Bool) (before : ℕ) (ts : List Tries) → planned_stops planned before ts + strays planned before ts ≡ stops_in ts
planned_stops-strays planned before [] = refl
planned_stops-strays planned before (t ∷ ts) =
    let rest = planned_stops-strays planned (before + attempts t) ts in
    let one = one_of t.stopped (planned (before + t.made + 1)) in
    omega arith

range-split : (a m n : ℕ) → range_with_len a (m + n) ≡ range_with_len a m ++ range_with_len (a + m) n
range-split a zero n =
    let first : zero + n ≡ n = omega arith in
    let same : a + 0 ≡ a = omega arith in
    ap (range_with_len a) first ∙ ap (λ b. range_with_len b n) (sym same)
range-split a (suc m) n =
    let first : suc m + n ≡ suc (m + n) = omega arith in
    let same : a + 1 + m ≡ a + suc m = omega arith in
    ap (range_with_len a) first ∙ ap (λ ks. a ∷ ks) (range-split (a + 1) m n ∙ ap (λ b. range_with_len (a + 1) m ++ range_with_len b n) same)

count_by-split : (p : ℕ → Bool) (a m n : ℕ) → count_by p (range_with_len a (m + n)) ≡ count_by p (range_with_len a m) + count_by p (range_with_len (a + m) n)
count_by-split p a m n = ap (count_by p) (range-split a m n) ∙ sum_by-append (λ k. cond (p k) 1 0) (range_with_len a m) (range_with_len (a + m) n)

-- none is counted where none passes
count_by-not : (p : ℕ → Bool) (a n : ℕ) → list_all (λ k. not (p k)) (range_with_len a n) ≡ true → count_by p (range_with_len a n) ≡ 0
count_by-not p a zero none = refl
count_by-not p a (suc n) none =
    let parts = and_parts (not (p a)) (list_all (λ k. not (p k)) (range_with_len (a + 1) n)) none in
    sum_by-cons (λ k. cond (p k) 1 0) a (range_with_len (a + 1) n)
    ∙ ap (λ b. cond b 1 0 + count_by p (range_with_len (a + 1) n)) (not-true (p a) parts.0)
    ∙ zero-add _
    ∙ count_by-not p (a + 1) n parts.1

-- nor from a number on
count_by-past : (p : ℕ → Bool) (a n : ℕ) → ((k : ℕ) → a ≤ k → p k ≡ false) → count_by p (range_with_len a n) ≡ 0
count_by-past p a zero none = refl
count_by-past p a (suc n) none =
    sum_by-cons (λ k. cond (p k) 1 0) a (range_with_len (a + 1) n)
    ∙ ap (λ b. cond b 1 0 + count_by p (range_with_len (a + 1) n)) (none a (omega arith))
    ∙ zero-add _
    ∙ count_by-past p (a + 1) n (λ k above. none k (omega arith))

count_by-stop : (p : ℕ → Bool) (a : ℕ) (stopped : Bool) → count_by p (range_with_len a (one_if stopped)) ≡ one_if (stopped && p a)
count_by-stop p a true = zero-add (cond (p a) 1 0)
count_by-stop p a false = refl

-- where no move was planned to be refused, the planned numbers that were tried are those of the planned stops
count_by-in_step : (planned : ℕ → Bool) (before : ℕ) (ts : List Tries) → are_in_step planned before ts ≡ true → count_by planned (range_with_len (before + 1) (all_attempts ts)) ≡ planned_stops planned before ts
count_by-in_step planned before [] all = refl
count_by-in_step planned before (t ∷ ts) all =
    let parts = and_parts (none_planned planned before t.made) (are_in_step planned (before + attempts t) ts) all in
    let next : before + 1 + t.made ≡ before + t.made + 1 = omega arith in
    let later : before + 1 + attempts t ≡ before + attempts t + 1 = omega arith in
    let one : count_by planned (range_with_len (before + 1) (attempts t)) ≡ one_if (t.stopped && planned (before + t.made + 1)) =
    count_by-split planned (before + 1) t.made (one_if t.stopped)
    ∙ ap (λ n. n + count_by planned (range_with_len (before + 1 + t.made) (one_if t.stopped))) (count_by-not planned (before + 1) t.made parts.0)
    ∙ zero-add _
    ∙ count_by-stop planned (before + 1 + t.made) t.stopped
    ∙ ap (λ k. one_if (t.stopped && planned k)) next in
    count_by-split planned (before + 1) (attempts t) (all_attempts ts)
    ∙ ap (λ n. n + count_by planned (range_with_len (before + 1 + attempts t) (all_attempts ts))) one
    ∙ ap (λ k. one_if (t.stopped && planned (before + t.made + 1)) + count_by planned (range_with_len k (all_attempts ts))) later
    ∙ ap (λ n. one_if (t.stopped && planned (before + t.made + 1)) + n) (count_by-in_step planned (before + attempts t) ts parts.1)

-- where no number above `m` passes, none of them is counted
count_by-up_to : (p : ℕ → Bool) (m n : ℕ) → m ≤ n → ((k : ℕ) → m < k → p k ≡ false) → count_by p (range_with_len 1 m) ≡ count_by p (range_with_len 1 n)
count_by-up_to p m n within none =
    let whole : m + (n - m) ≡ n = omega arith in
    sym (
    ap (λ k. count_by p (range_with_len 1 k)) (sym whole)
    ∙ count_by-split p 1 m (n - m)
    ∙ ap (λ k. count_by p (range_with_len 1 m) + k) (count_by-past p (1 + m) (n - m) (λ k above. none k (omega arith)))
    ∙ add-zero (count_by p (range_with_len 1 m)))

-- no planned number stands beyond the end of the counts
count_by-end : (plan : Plan) (n : ℕ) → HasSmallNumbers plan → count_by (refuses plan) (range_with_len 1 (raised 0 n)) ≡ count_by (refuses plan) (range_with_len 1 n)
count_by-end plan n small = elim (cases_lt count_end n) [
  | inr within ↦ let same : raised 0 n ≡ n = omega arith in ap (λ k. count_by (refuses plan) (range_with_len 1 k)) same
  | inl past ↦ count_by-up_to (refuses plan) (raised 0 n) n (omega arith) (λ k above. false_from_ne_true _ (λ planned. let most = small k planned in omega arith))
]

-- what a plan refused are the planned stops
refused_of-stays : (plan plan' : Plan) (ts : List Tries) → HasSmallNumbers plan → plan.tried ≡ 0 → StaysInStep ts (Some plan) (Some plan') → refused_of plan' ≡ planned_stops (refuses plan) 0 ts
unfolding refused_of
refused_of-stays plan plan' ts small start stays =
    let later : plan' ≡ record plan { tried = raised plan.tried (all_attempts ts) } = same_Some _ _ stays.counted in
    let step : are_in_step (refuses plan) 0 ts ≡ true = subst (λ n. are_in_step (refuses plan) n ts ≡ true) start (stays.in_step small) in
    ap (λ (p : Plan). count_by (refuses p) (range_with_len 1 p.tried)) later
    ∙ ap (λ n. count_by (refuses plan) (range_with_len 1 (raised n (all_attempts ts)))) start
    ∙ count_by-end plan (all_attempts ts) small
    ∙ count_by-in_step (refuses plan) 0 ts step

-- before the first call nothing was refused
pub refused_of-start : (numbers : List ℕ) → refused_of (plan_of numbers) ≡ 0
unfolding refused_of
refused_of-start numbers = refl

-- the wire inside counted the stray ones
inside_by : (inner refused stray stops : ℕ) → refused + stray ≡ stops → stops ≤ count_end → RoseBy 0 (raised inner refused) stops → RoseBy 0 inner stray
inside_by inner refused stray stops all few rose = omega arith

-- and they are counted under the number of the wire
under_by : (count inner stray : ℕ) → RoseBy 0 inner stray → RoseBy count (raised count inner) stray
under_by count inner stray rose = omega arith

pub strays_counted : (plan plan' : Plan) (ts : List Tries) (count inner : ℕ) → HasSmallNumbers plan → plan.tried ≡ 0 → StaysInStep ts (Some plan) (Some plan') → stops_in ts ≤ count_end
    → RoseBy 0 (raised inner (refused_of plan')) (stops_in ts) → RoseBy count (raised count inner) (strays (refuses plan) 0 ts)
strays_counted plan plan' ts count inner small start stays few rose =
    under_by count inner (strays (refuses plan) 0 ts)
    (inside_by inner (refused_of plan') (strays (refuses plan) 0 ts) (stops_in ts)
    (ap (λ n. n + strays (refuses plan) 0 ts) (refused_of-stays plan plan' ts small start stays) ∙ planned_stops-strays (refuses plan) 0 ts) few rose)

-- the numbers that were taken for a worker are those that are planned for it
pub planned_by : (numbers : List ℕ) (refusals : Refusals) (worker : ℕ) → ((number : ℕ) → list_any (λ n. eqb n number) numbers ≡ is_planned refusals worker number) → refuses (plan_of numbers) ≡ is_planned refusals worker
planned_by numbers refusals worker same = fun_ext (λ number. refuses-plan_of numbers number ∙ same number)
