-- How many handles there can be: a worker has at most 64, and a worker's number has 16 bits.
use Rattle.std.proofs.Common.{◌≡◌, ℕ, zero, suc, ◌+◌, ◌*◌, ◌<◌, ◌≤◌, Bool, true, false, cond, eqb, ltb, List, [], ◌∷◌, refl, sym, ap, ◌∙◌, arith, length, take, drop, All, count_by, eq-eqb}
use Rattle.std.proofs.lemmas.Bool.{eqb-true, ltb-true, ltb-false, lt-ltb, le-ltb, false≢true}
use Rattle.std.proofs.lemmas.List.{take-append-drop, length-take-le}
use Rattle.std.proofs.lemmas.List.Elements.{All-head, All-tail}
use Rattle.std.proofs.lemmas.List.Sums.{sum_by-cons, sum_by-append}
use Rattle.plain_board.specs.Handles.{Entry, count_own}
use Rattle.plain_board.specs.Refusals.{most_handles}

-- 1 where it is so
abbrev pub one_if : Bool → ℕ
one_if t = cond t 1 0

-- how many handles are of the workers below n
abbrev pub below : ℕ → List Entry → ℕ
below n es = count_by (λ (e : Entry). ltb e.1.worker n) es

-- a worker below the next number is that one or below it
either : (w n : ℕ) (t u : Bool) → ltb w n ≡ t → eqb w n ≡ u → one_if (ltb w (n + 1)) ≡ one_if t + one_if u
either w n true true less same = absurd (omega (arith, ltb-true w n less, eqb-true w n same))
either w n true false less same = ap one_if (lt-ltb w (n + 1) (omega (arith, ltb-true w n less)))
either w n false true less same = ap one_if (lt-ltb w (n + 1) (omega (arith, eqb-true w n same)))
either w n false false less same =
    let differs : w ≡ n → ⊥ = λ is. false≢true (sym same ∙ eq-eqb w n is) in
    ap one_if (le-ltb w (n + 1) (omega (arith, differs, ltb-false w n less)))

one_more : (es : List Entry) (n : ℕ) → below (n + 1) es ≡ below n es + count_own es n
one_more [] n = refl
one_more (e ∷ es) n =
    omega (
      arith,
      sum_by-cons (λ (x : Entry). one_if (ltb x.1.worker (n + 1))) e es,
      sum_by-cons (λ (x : Entry). one_if (ltb x.1.worker n)) e es,
      sum_by-cons (λ (x : Entry). one_if (eqb x.1.worker n)) e es,
      one_more es n,
      either e.1.worker n (ltb e.1.worker n) (eqb e.1.worker n) refl refl,
    )

none_below : (es : List Entry) → below 0 es ≡ 0
none_below [] = refl
none_below (e ∷ es) =
    sum_by-cons (λ (x : Entry). one_if (ltb x.1.worker 0)) e es ∙ ap (λ t. one_if t + below 0 es) (le-ltb e.1.worker 0 (omega arith)) ∙ ap (λ n. 0 + n) (none_below es) ∙ refl

pub few_below : (es : List Entry) → ((worker : ℕ) → count_own es worker ≤ most_handles) → (n : ℕ) → below n es ≤ 64 * n
few_below es few zero = omega (arith, none_below es)
few_below es few (suc n) =
    let same : below (suc n) es ≡ below (n + 1) es = ap (λ m. below m es) (omega arith) in
    omega (arith, same, one_more es n, few_below es few n, few n)

pub all_below : (es : List Entry) (n : ℕ) → All (λ (e : Entry). e.1.worker < n) es → below n es ≡ length es
all_below [] n all = refl
all_below (e ∷ es) n all =
    let here : one_if (ltb e.1.worker n) ≡ 1 = ap one_if (lt-ltb e.1.worker n (All-head (λ (x : Entry). x.1.worker < n) e es all)) in
    omega (arith, sum_by-cons (λ (x : Entry). one_if (ltb x.1.worker n)) e es, here, all_below es n (All-tail (λ (x : Entry). x.1.worker < n) e es all))

-- the first of some handles are no more of any worker
own_of_first : (es : List Entry) (k worker : ℕ) → count_own (take k es) worker ≤ count_own es worker
own_of_first es k worker =
    let parts : count_own es worker ≡ count_own (take k es) worker + count_own (drop k es) worker =
    ap (λ all. count_own all worker) (sym (take-append-drop k es)) ∙ sum_by-append (λ (e : Entry). one_if (eqb e.1.worker worker)) (take k es) (drop k es) in
    omega (arith, parts)

-- so the first ones, whose workers have such numbers, are few
pub few_first : (es : List Entry) (k : ℕ) → ((worker : ℕ) → count_own es worker ≤ most_handles) → k ≤ length es → All (λ (e : Entry). e.1.worker < 65536) (take k es) → k < 4294967295
few_first es k few within all =
    let bound : below 65536 (take k es) ≤ 64 * 65536 = few_below (take k es) (λ worker. omega (arith, own_of_first es k worker, few worker)) 65536 in
    omega (arith, bound, all_below (take k es) 65536 all, length-take-le k es within)
