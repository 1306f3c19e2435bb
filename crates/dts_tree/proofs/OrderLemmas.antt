-- The walk over links that gives the order of a tree.
use Rattle.std.proofs.Common.{◌≡◌, ℕ, zero, suc, ◌+◌, ◌-◌, ◌<◌, ◌≤◌, List, [], ◌∷◌, ◌++◌, Bool, true, false, cond, Option, Some, None, length, filter, get_or, reverse, nat_eq, refl, sym, ap, ◌∙◌, subst, arith, append_assoc}
use Rattle.std.proofs.Math.Logic.{⊎_elim}
use Rattle.std.specs.List.{range_with_len, flat_map}
use Rattle.std.proofs.lemmas.Bool.{cases_eq, cases_lt, cases_Bool, cond-true, cond-false, ne_eqb, eqb-true}
use Rattle.std.proofs.lemmas.List.{reverse-append, append-nil}
use Rattle.dts_tree.specs.Order.{children_from, below}
use Rattle.dts_tree.specs.Inside.Links.{first_of, listed, Linked}
use Rattle.dts_tree.proofs.LinkLemmas.{children_from-end, children_from-step}

-- the children of a node's parent behind it
unfoldable pub siblings_after : List ℕ → ℕ → List ℕ
siblings_after parents j = cond (nat_eq j 0) [] (children_from parents (get_or parents j 0) (j + 1))

siblings_after-some : (parents : List ℕ) (j : ℕ) → 1 ≤ j → siblings_after parents j ≡ children_from parents (get_or parents j 0) (j + 1)
unfolding siblings_after
siblings_after-some parents j h = cond-false _ [] (children_from parents (get_or parents j 0) (j + 1)) (ne_eqb j 0 (λ e. omega (arith, e, h)))

siblings_after-root : (parents : List ℕ) → siblings_after parents 0 ≡ []
unfolding siblings_after
siblings_after-root parents = refl

pub linked-next : (parents : List ℕ) (first next : List (Option ℕ)) (j : ℕ) → Linked parents (length parents) first next 1 → j < length parents → get_or next j None ≡ first_of (siblings_after parents j)
linked-next parents first next j h in_j = ⊎_elim
    (λ e. ap (λ (i : ℕ). get_or next i None) e ∙ (h.alone 0 (omega arith) ∙ sym (ap first_of (ap (siblings_after parents) e ∙ siblings_after-root parents))))
    (λ n. h.sibling j (omega (arith, n)) in_j ∙ sym (ap first_of (siblings_after-some parents j (omega (arith, n)))))
    (cases_eq j 0)

-- ---- what is first among children
pub record Split (parents : List ℕ) (x k f : ℕ) : Type 0 where
  pub whole : children_from parents x k ≡ f ∷ children_from parents x (f + 1)
  pub parent : get_or parents f 0 ≡ x
  pub from : k ≤ f
  pub inside : f < length parents

children-split : (m : ℕ) (parents : List ℕ) (x k f : ℕ) → length parents ≤ k + m → first_of (children_from parents x k) ≡ Some f → Split parents x k f
children-split zero parents x k f few is =
    let none : None ≡ Some f = sym (ap first_of (children_from-end parents x k (omega (arith, few)))) ∙ is in absurd (cc)
children-split (suc m) parents x k f few is =
    ⊎_elim
    (λ more. ⊎_elim
    (λ here.
    let step : children_from parents x k ≡ k ∷ children_from parents x (k + 1) = children_from-step parents x k more ∙ cond-true _ (k ∷ children_from parents x (k + 1)) (children_from parents x (k + 1)) here in
    let found : Some k ≡ Some f = sym (ap first_of step) ∙ is in
    let same : k ≡ f = cc in
    subst (λ (g : ℕ). Split parents x k g) same (record { whole = step; parent = eqb-true (get_or parents k 0) x here; from = omega arith; inside = more }))
    (λ not_here.
    let step : children_from parents x k ≡ children_from parents x (k + 1) = children_from-step parents x k more ∙ cond-false _ (k ∷ children_from parents x (k + 1)) (children_from parents x (k + 1)) not_here in
    let rest : Split parents x (k + 1) f = children-split m parents x (k + 1) f (omega (arith, few)) (sym (ap first_of step) ∙ is) in
    record { whole = step ∙ rest.whole; parent = rest.parent; from = omega (arith, rest.from); inside = rest.inside })
    (cases_Bool (nat_eq (get_or parents k 0) x)))
    (λ past. let none : None ≡ Some f = sym (ap first_of (children_from-end parents x k past)) ∙ is in absurd (cc))
    (cases_lt k (length parents))

pub children-first : (parents : List ℕ) (x k f : ℕ) → first_of (children_from parents x k) ≡ Some f → Split parents x k f
children-first parents x k f is = children-split (length parents) parents x k f (omega arith) is

pub first-none : (xs : List ℕ) → first_of xs ≡ None → xs ≡ []
first-none [] h = refl
first-none (x ∷ xs) h = absurd (cc)

-- ---- no more levels than nodes
pub filter-passes : (p : ℕ → Bool) (x : ℕ) (xs : List ℕ) → p x ≡ true → filter p (x ∷ xs) ≡ x ∷ filter p xs
filter-passes p x xs h = cond-true (p x) (x ∷ filter p xs) (filter p xs) h

pub filter-fails : (p : ℕ → Bool) (x : ℕ) (xs : List ℕ) → p x ≡ false → filter p (x ∷ xs) ≡ filter p xs
filter-fails p x xs h = cond-false (p x) (x ∷ filter p xs) (filter p xs) h

pub filter-none : (p : ℕ → Bool) (k m : ℕ) → ((j : ℕ) → k ≤ j → j < k + m → p j ≡ false) → filter p (range_with_len k m) ≡ []
filter-none p k zero h = refl
filter-none p k (suc m) h =
    filter-fails p k (range_with_len (k + 1) m) (h k (omega arith) (omega arith))
    ∙ filter-none p (k + 1) m (λ j low high. h j (omega (arith, low)) (omega (arith, high)))

pub flat_map-children : {X : Type 0} (A B : ℕ → List X) (p : ℕ → Bool) (k m : ℕ) → ((j : ℕ) → k ≤ j → j < k + m → p j ≡ true → A j ≡ B j) → flat_map A (filter p (range_with_len k m)) ≡ flat_map B (filter p (range_with_len k m))
flat_map-children A B p k zero h = refl
flat_map-children A B p k (suc m) h =
    let xs : List ℕ = range_with_len (k + 1) m in
    let rest : flat_map A (filter p xs) ≡ flat_map B (filter p xs) = flat_map-children A B p (k + 1) m (λ j low high. h j (omega (arith, low)) (omega (arith, high))) in
    ⊎_elim
    (λ passes.
    let here : A k ≡ B k = h k (omega arith) (omega arith) passes in
    ap (flat_map A) (filter-passes p k xs passes)
    ∙ (ap (λ ys. ys ++ flat_map A (filter p xs)) here
    ∙ (ap (λ ys. B k ++ ys) rest
    ∙ sym (ap (flat_map B) (filter-passes p k xs passes)))))
    (λ fails. ap (flat_map A) (filter-fails p k xs fails) ∙ (rest ∙ sym (ap (flat_map B) (filter-fails p k xs fails))))
    (cases_Bool (p k))

abbrev pub IsEarlier : List ℕ → Type 0
IsEarlier parents = (j : ℕ) → 1 ≤ j → j < length parents → get_or parents j 0 < j

-- nothing is below the last node
below-bottom : (parents : List ℕ) → IsEarlier parents → (f x : ℕ) → length parents ≤ x + 1 → below f parents x ≡ x ∷ []
unfolding below children_from
below-bottom parents earlier zero x few = refl
below-bottom parents earlier (suc f) x few =
    ap (λ cs. x ∷ flat_map (below f parents) cs) (filter-none (λ j. nat_eq (get_or parents j 0) x) 1 (length parents - 1)
    (λ j low high. ne_eqb (get_or parents j 0) x (λ e. omega (arith, earlier j low (omega (arith, low, high)), e, few, low, high))))

-- as many levels serve as there are nodes behind x
below-levels : (parents : List ℕ) → IsEarlier parents → (f g x : ℕ) → length parents ≤ f + (x + 1) → length parents ≤ g + (x + 1) → below f parents x ≡ below g parents x
unfolding below children_from
below-levels parents earlier zero g x few_f few_g = sym (below-bottom parents earlier g x (omega (arith, few_f)))
below-levels parents earlier (suc f) zero x few_f few_g = below-bottom parents earlier (suc f) x (omega (arith, few_g))
below-levels parents earlier (suc f) (suc g) x few_f few_g =
    ap (λ ys. x ∷ ys) (flat_map-children (below f parents) (below g parents) (λ j. nat_eq (get_or parents j 0) x) 1 (length parents - 1)
    (λ j low high is.
    let in_j : j < length parents = omega (arith, low, high) in
    let higher : x < j = omega (arith, earlier j low in_j, eqb-true (get_or parents j 0) x is) in
    below-levels parents earlier f g j (omega (arith, few_f, higher)) (omega (arith, few_g, higher))))

-- a node and what is below it
unfoldable pub block : List ℕ → ℕ → List ℕ
block parents x = below (length parents) parents x

block-levels : (parents : List ℕ) (x n : ℕ) → IsEarlier parents → length parents ≡ suc n → below (length parents) parents x ≡ x ∷ flat_map (below (length parents) parents) (children_from parents x 1)
unfolding below children_from
block-levels parents x n earlier is =
    ap (λ l. below l parents x) is
    ∙ ap (λ ys. x ∷ ys) (flat_map-children (below n parents) (below (length parents) parents) (λ j. nat_eq (get_or parents j 0) x) 1 (length parents - 1)
    (λ j low high passes. below-levels parents earlier n (length parents) j (omega (arith, is)) (omega arith)))

pub block-step : (parents : List ℕ) (x : ℕ) → IsEarlier parents → 0 < length parents → block parents x ≡ x ∷ flat_map (block parents) (children_from parents x 1)
unfolding block
block-step parents x earlier some = block-levels parents x (length parents - 1) earlier (omega (arith, some))

-- what is left to tell of the nodes that wait, each with what follows it below its parent
abbrev pub pending : List ℕ → List ℕ → List ℕ
pending parents [] = []
pending parents (s ∷ ss) = flat_map (block parents) (s ∷ siblings_after parents s) ++ pending parents ss

abbrev pub Inside : ℕ → List ℕ → Type 0
Inside n [] = Unit {0}
Inside n (s ∷ ss) = (s < n) × Inside n ss

-- ---- a step of the walk
spread-some : (parents : List ℕ) (x k : ℕ) (ss : List ℕ) → 1 ≤ k → (o : Option ℕ) → first_of (children_from parents x k) ≡ o → flat_map (block parents) (children_from parents x k) ++ pending parents ss ≡ pending parents (listed o ++ ss)
spread-some parents x k ss low None is =
    ap (λ cs. flat_map (block parents) cs ++ pending parents ss) (first-none (children_from parents x k) is)
spread-some parents x k ss low (Some f) is =
    let h : Split parents x k f = children-first parents x k f is in
    let behind : siblings_after parents f ≡ children_from parents x (f + 1) = siblings_after-some parents f (omega (arith, low, h.from)) ∙ ap (λ y. children_from parents y (f + 1)) h.parent in
    ap (λ cs. flat_map (block parents) cs ++ pending parents ss) (h.whole ∙ ap (λ cs. f ∷ cs) (sym behind))

spread-children : (parents : List ℕ) (x k : ℕ) (ss : List ℕ) → 1 ≤ k → flat_map (block parents) (children_from parents x k) ++ pending parents ss ≡ pending parents (listed (first_of (children_from parents x k)) ++ ss)
spread-children parents x k ss low = spread-some parents x k ss low (first_of (children_from parents x k)) refl

spread-siblings : (parents : List ℕ) (s : ℕ) (ss : List ℕ) → flat_map (block parents) (siblings_after parents s) ++ pending parents ss ≡ pending parents (listed (first_of (siblings_after parents s)) ++ ss)
spread-siblings parents s ss =
    let P : List ℕ → Type 0 = λ cs. flat_map (block parents) cs ++ pending parents ss ≡ pending parents (listed (first_of cs) ++ ss) in
    ⊎_elim
    (λ e. subst P (sym (ap (siblings_after parents) e ∙ siblings_after-root parents)) refl)
    (λ n. subst P (sym (siblings_after-some parents s (omega (arith, n)))) (spread-children parents (get_or parents s 0) (s + 1) ss (omega arith)))
    (cases_eq s 0)

-- behind the node that was taken those that wait in its place
abbrev pub waits_after : List ℕ → ℕ → List ℕ → List ℕ
waits_after parents s ss = listed (first_of (children_from parents s 1)) ++ (listed (first_of (siblings_after parents s)) ++ ss)

pub pending-step : (parents : List ℕ) (s : ℕ) (ss : List ℕ) → IsEarlier parents → 0 < length parents → pending parents (s ∷ ss) ≡ s ∷ pending parents (waits_after parents s ss)
pending-step parents s ss earlier some =
    let cs : List ℕ = flat_map (block parents) (children_from parents s 1) in
    let fs : List ℕ = flat_map (block parents) (siblings_after parents s) in
    ap (λ ys. (ys ++ fs) ++ pending parents ss) (block-step parents s earlier some)
    ∙ ap (λ ys. s ∷ ys) (append_assoc cs fs (pending parents ss)
    ∙ (ap (λ ys. cs ++ ys) (spread-siblings parents s ss)
    ∙ spread-children parents s 1 (listed (first_of (siblings_after parents s)) ++ ss) (omega arith)))

inside-some : (parents : List ℕ) (x k : ℕ) (ss : List ℕ) → Inside (length parents) ss → (o : Option ℕ) → first_of (children_from parents x k) ≡ o → Inside (length parents) (listed o ++ ss)
inside-some parents x k ss h None is = h
inside-some parents x k ss h (Some f) is = ((children-first parents x k f is).inside, h)

pub inside-step : (parents : List ℕ) (s : ℕ) (ss : List ℕ) → Inside (length parents) ss → Inside (length parents) (waits_after parents s ss)
inside-step parents s ss h =
    let P : List ℕ → Type 0 = λ cs. Inside (length parents) (listed (first_of cs) ++ ss) in
    let siblings : Inside (length parents) (listed (first_of (siblings_after parents s)) ++ ss) =
    ⊎_elim
    (λ e. subst P (sym (ap (siblings_after parents) e ∙ siblings_after-root parents)) h)
    (λ n. subst P (sym (siblings_after-some parents s (omega (arith, n)))) (inside-some parents (get_or parents s 0) (s + 1) ss h (first_of (children_from parents (get_or parents s 0) (s + 1))) refl))
    (cases_eq s 0) in
    inside-some parents s 1 (listed (first_of (siblings_after parents s)) ++ ss) siblings (first_of (children_from parents s 1)) refl

reverse-listed : (o : Option ℕ) → reverse (listed o) ≡ listed o
reverse-listed None = refl
reverse-listed (Some x) = refl

-- what was put last is taken first
pub reverse-puts : (ss : List ℕ) (a b : Option ℕ) → reverse ((ss ++ listed a) ++ listed b) ≡ listed b ++ (listed a ++ reverse ss)
reverse-puts ss a b = reverse-append (ss ++ listed a) (listed b) ∙ (ap (λ xs. xs ++ reverse (ss ++ listed a)) (reverse-listed b) ∙ ap (λ xs. listed b ++ xs) (reverse-append ss (listed a) ∙ ap (λ xs. xs ++ reverse ss) (reverse-listed a)))

pub pending-root : (parents : List ℕ) → pending parents (0 ∷ []) ≡ below (length parents) parents 0
unfolding block
pending-root parents = ap (λ cs. flat_map (block parents) (0 ∷ cs) ++ []) (siblings_after-root parents) ∙ (append-nil _ ∙ append-nil _)

-- the walk goes on
pub walk-left : (parents order rest now_order now_rest : List ℕ) (s : ℕ) (all : List ℕ) → IsEarlier parents → 0 < length parents → now_order ≡ order ++ s ∷ [] → reverse now_rest ≡ waits_after parents s (reverse rest) → order ++ pending parents (s ∷ reverse rest) ≡ all → now_order ++ pending parents (reverse now_rest) ≡ all
walk-left parents order rest now_order now_rest s all earlier some told waits left =
    ap (λ ys. ys ++ pending parents (reverse now_rest)) told
    ∙ (append_assoc order (s ∷ []) (pending parents (reverse now_rest))
    ∙ (ap (λ ws. order ++ (s ∷ pending parents ws)) waits
    ∙ (ap (λ ys. order ++ ys) (sym (pending-step parents s (reverse rest) earlier some)) ∙ left)))

pub reverse-taken : (before rest : List ℕ) (s : ℕ) → before ≡ rest ++ s ∷ [] → reverse before ≡ s ∷ reverse rest
reverse-taken before rest s is = ap reverse is ∙ reverse-append rest (s ∷ [])
