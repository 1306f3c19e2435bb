-- Which rails a group has, which are taken, and which group comes next.
use Rattle.std.proofs.Common.{◌≡◌, ℕ, zero, suc, ◌+◌, ◌<◌, Bool, true, false, cond, ◌&&◌, ◌||◌, List, [], ◌∷◌, Option, Some, None, refl, sym, ap, subst, arith, eq-eqb, eqb-true}
use Rattle.std.specs.Prelude.{Contains, ◌==◌, map, filter, find, option_map, slice_get, nat_eq}
use Rattle.std.specs.List.{enumerate_from, list_all}
use Rattle.std.proofs.lemmas.Bool.{and_parts, or_right}
use Rattle.board_graph.specs.declared.graph.Graph.{Graph}
use Rattle.board_graph.specs.Graph.{IsIn, members}
use Rattle.board_graph.specs.Order.{is_taken, is_ready, next_group}

-- the rails of a group, numbered from n on
abbrev rails_of : ℕ → ℕ → List ℕ → List ℕ
rails_of g n xs = map (λ p. p.0) (filter (λ p. p.1 == g) (enumerate_from n xs))

rail_among : (g n : ℕ) (xs : List ℕ) (k : ℕ) → slice_get xs k ≡ Some g → is_taken (rails_of g n xs) (n + k) ≡ true
rail_among g n [] k is = absurd (cc)
rail_among g n (x ∷ xs) zero is =
    let same : x ≡ g = cc in
    let here : nat_eq (n + 0) n ≡ true = eq-eqb (n + 0) n (omega arith) in
    rw (eq-eqb x g same) (rw here refl)
rail_among g n (x ∷ xs) (suc k) is =
    let number : n + 1 + k ≡ n + suc k = omega arith in
    let later : is_taken (rails_of g (n + 1) xs) (n + suc k) ≡ true =
    subst (λ r. is_taken (rails_of g (n + 1) xs) r ≡ true) number (rail_among g (n + 1) xs k is) in
    elim (x == g) as (λ b. is_taken (map (λ p. p.0) (cond b ((n, x) ∷ filter (λ p. p.1 == g) (enumerate_from (n + 1) xs)) (filter (λ p. p.1 == g) (enumerate_from (n + 1) xs)))) (n + suc k) ≡ true) [
      | true ↦ or_right _ _ later
      | false ↦ later
    ]

among_rail : (g n : ℕ) (xs : List ℕ) (r : ℕ) → is_taken (rails_of g n xs) r ≡ true → (k : ℕ) × (r ≡ n + k) × (slice_get xs k ≡ Some g)
among_rail g n [] r is = absurd (cc)
among_rail g n (x ∷ xs) r is =
    let later : is_taken (rails_of g (n + 1) xs) r ≡ true → (k : ℕ) × (r ≡ n + k) × (slice_get (x ∷ xs) k ≡ Some g) = λ among.
    let there = among_rail g (n + 1) xs r among in
    (suc there.0, omega (arith, there.1), there.2) in
    (elim (x == g) as (λ b. (x == g) ≡ b
    → is_taken (map (λ p. p.0) (cond b ((n, x) ∷ filter (λ p. p.1 == g) (enumerate_from (n + 1) xs)) (filter (λ p. p.1 == g) (enumerate_from (n + 1) xs)))) r ≡ true
    → (k : ℕ) × (r ≡ n + k) × (slice_get (x ∷ xs) k ≡ Some g)) [
      | true ↦ λ same. elim (nat_eq r n) as (λ b. nat_eq r n ≡ b → (b || is_taken (rails_of g (n + 1) xs) r) ≡ true
          → (k : ℕ) × (r ≡ n + k) × (slice_get (x ∷ xs) k ≡ Some g)) [
            | true ↦ λ here _. (0, omega (arith, eqb-true r n here), let e : x ≡ g = eqb-true x g same in cc)
            | false ↦ λ _ among. later among
          ] refl
      | false ↦ λ _ among. later among
    ]) refl is

pub is_member : (graph : Graph) (g r : ℕ) → IsIn graph g r → is_taken (members graph g) r ≡ true
is_member graph g r is =
    let number : 0 + r ≡ r = omega arith in
    subst (λ x. is_taken (members graph g) x ≡ true) number (rail_among g 0 graph.group r is)

pub member_is : (graph : Graph) (g r : ℕ) → is_taken (members graph g) r ≡ true → IsIn graph g r
member_is graph g r is =
    let there = among_rail g 0 graph.group r is in
    let same : there.0 ≡ r = omega (arith, there.1) in
    subst (λ x. slice_get graph.group x ≡ Some g) same there.2

pub all_at : (p : ℕ → Bool) (xs : List ℕ) (r : ℕ) → list_all p xs ≡ true → is_taken xs r ≡ true → p r ≡ true
all_at p [] r all is = absurd (cc)
all_at p (x ∷ xs) r all is =
    let both = and_parts (p x) (list_all p xs) all in
    (elim (nat_eq r x) as (λ b. nat_eq r x ≡ b → (b || is_taken xs r) ≡ true → p r ≡ true) [
      | true ↦ λ here _. subst (λ y. p y ≡ true) (sym (eqb-true r x here)) both.0
      | false ↦ λ _ later. all_at p xs r both.1 later
    ]) refl is

pub one_fails : (p : ℕ → Bool) (xs : List ℕ) → list_all p xs ≡ false → (r : ℕ) × (is_taken xs r ≡ true) × (p r ≡ false)
one_fails p [] is = absurd (cc)
one_fails p (x ∷ xs) is =
    (elim (p x) as (λ b. p x ≡ b → (b && list_all p xs) ≡ false → (r : ℕ) × (is_taken (x ∷ xs) r ≡ true) × (p r ≡ false)) [
      | true ↦ λ _ later. let there = one_fails p xs later in (there.0, or_right _ _ there.1, there.2)
      | false ↦ λ fails _. (x, rw (eq-eqb x x refl) refl, fails)
    ]) refl is

pub taken_at : (r : ℕ) (taken : List ℕ) → Contains taken r → is_taken taken r ≡ true
taken_at r [] (k, within, is) = absurd (omega arith)
taken_at r (x ∷ xs) (zero, within, is) = rw (eq-eqb r x (sym is)) refl
taken_at r (x ∷ xs) (suc k, within, is) = or_right _ _ (taken_at r xs (k, omega arith, is))

pub at_taken : (r : ℕ) (taken : List ℕ) → is_taken taken r ≡ true → Contains taken r
at_taken r [] is = absurd (cc)
at_taken r (x ∷ xs) is =
    (elim (nat_eq r x) as (λ b. nat_eq r x ≡ b → (b || is_taken xs r) ≡ true → Contains (x ∷ xs) r) [
      | true ↦ λ here _. (0, omega arith, sym (eqb-true r x here))
      | false ↦ λ _ later. let there = at_taken r xs later in (suc there.0, omega (arith, there.1), there.2)
    ]) refl is

-- the group of the first rail that passes, from number n on
abbrev group_by : (ℕ × ℕ → Bool) → ℕ → List ℕ → Option ℕ
group_by p n xs = option_map (λ q. q.1) (find p (enumerate_from n xs))

found : (p : ℕ × ℕ → Bool) (n : ℕ) (xs : List ℕ) (g : ℕ) → group_by p n xs ≡ Some g → (k : ℕ) × (slice_get xs k ≡ Some g) × (p (n + k, g) ≡ true)
found p n [] g is = absurd (cc)
found p n (x ∷ xs) g is =
    (elim (p (n, x)) as (λ b. p (n, x) ≡ b → option_map (λ q. q.1) (cond b (Some (n, x)) (find p (enumerate_from (n + 1) xs))) ≡ Some g
    → (k : ℕ) × (slice_get (x ∷ xs) k ≡ Some g) × (p (n + k, g) ≡ true)) [
      | true ↦ λ passes first.
          let same : x ≡ g = cc in
          let number : n ≡ n + 0 = omega arith in
          (0, first, subst (λ m. p (m, g) ≡ true) number (subst (λ y. p (n, y) ≡ true) same passes))
      | false ↦ λ _ later.
          let there = found p (n + 1) xs g later in
          let number : n + 1 + there.0 ≡ n + suc there.0 = omega arith in
          (suc there.0, there.1, subst (λ m. p (m, g) ≡ true) number there.2)
    ]) refl is

not_found : (p : ℕ × ℕ → Bool) (n : ℕ) (xs : List ℕ) (k g : ℕ) → group_by p n xs ≡ None → slice_get xs k ≡ Some g → p (n + k, g) ≡ false
not_found p n [] k g none is = absurd (cc)
not_found p n (x ∷ xs) zero g none is =
    let same : x ≡ g = cc in
    let number : n ≡ n + 0 = omega arith in
    (elim (p (n, x)) as (λ b. p (n, x) ≡ b → option_map (λ q. q.1) (cond b (Some (n, x)) (find p (enumerate_from (n + 1) xs))) ≡ None → p (n + 0, g) ≡ false) [
      | true ↦ λ _ first. absurd (cc)
      | false ↦ λ fails _. subst (λ m. p (m, g) ≡ false) number (subst (λ y. p (n, y) ≡ false) same fails)
    ]) refl none
not_found p n (x ∷ xs) (suc k) g none is =
    let number : n + 1 + k ≡ n + suc k = omega arith in
    (elim (p (n, x)) as (λ b. option_map (λ q. q.1) (cond b (Some (n, x)) (find p (enumerate_from (n + 1) xs))) ≡ None → p (n + suc k, g) ≡ false) [
      | true ↦ λ first. absurd (cc)
      | false ↦ λ later. subst (λ m. p (m, g) ≡ false) number (not_found p (n + 1) xs k g later is)
    ]) none

pub next_is_ready : (graph : Graph) (taken : List ℕ) (g : ℕ) → next_group graph taken ≡ Some g → (r : ℕ) × IsIn graph g r × (is_ready graph taken (r, g) ≡ true)
next_is_ready graph taken g is =
    let there = found (is_ready graph taken) 0 graph.group g is in
    let number : 0 + there.0 ≡ there.0 = omega arith in
    (there.0, there.1, subst (λ x. is_ready graph taken (x, g) ≡ true) number there.2)

pub none_is_ready : (graph : Graph) (taken : List ℕ) (r g : ℕ) → next_group graph taken ≡ None → IsIn graph g r → is_ready graph taken (r, g) ≡ false
none_is_ready graph taken r g none is =
    let number : 0 + r ≡ r = omega arith in
    subst (λ x. is_ready graph taken (x, g) ≡ false) number (not_found (is_ready graph taken) 0 graph.group r g none is)

-- the first rail that passes
first_found : (p : ℕ × ℕ → Bool) (n : ℕ) (xs : List ℕ) (k g : ℕ) → slice_get xs k ≡ Some g → p (n + k, g) ≡ true
    → ((j h : ℕ) → j < k → slice_get xs j ≡ Some h → p (n + j, h) ≡ false) → group_by p n xs ≡ Some g
first_found p n [] k g is passes before = absurd (cc)
first_found p n (x ∷ xs) zero g is passes before =
    let same : g ≡ x = cc in
    let number : n + 0 ≡ n = omega arith in
    let here : p (n, x) ≡ true = subst (λ y. p (n, y) ≡ true) same (subst (λ m. p (m, g) ≡ true) number passes) in
    rw here (sym (ap Some same))
first_found p n (x ∷ xs) (suc k) g is passes before =
    let number : n + suc k ≡ n + 1 + k = omega arith in
    let first : n + 0 ≡ n = omega arith in
    let fails : p (n, x) ≡ false = subst (λ m. p (m, x) ≡ false) first (before 0 x (omega arith) refl) in
    rw fails (first_found p (n + 1) xs k g is (subst (λ m. p (m, g) ≡ true) number passes)
    (λ j h less there. let later : n + suc j ≡ n + 1 + j = omega arith in subst (λ m. p (m, h) ≡ false) later (before (suc j) h (omega arith) there)))

none_found : (p : ℕ × ℕ → Bool) (n : ℕ) (xs : List ℕ) → ((j h : ℕ) → slice_get xs j ≡ Some h → p (n + j, h) ≡ false) → group_by p n xs ≡ None
none_found p n [] none = refl
none_found p n (x ∷ xs) none =
    let first : n + 0 ≡ n = omega arith in
    let fails : p (n, x) ≡ false = subst (λ m. p (m, x) ≡ false) first (none 0 x refl) in
    rw fails (none_found p (n + 1) xs (λ j h there. let later : n + suc j ≡ n + 1 + j = omega arith in subst (λ m. p (m, h) ≡ false) later (none (suc j) h there)))

pub ready_is_next : (graph : Graph) (taken : List ℕ) (r g : ℕ) → IsIn graph g r → is_ready graph taken (r, g) ≡ true
    → ((q h : ℕ) → q < r → IsIn graph h q → is_ready graph taken (q, h) ≡ false) → next_group graph taken ≡ Some g
ready_is_next graph taken r g in_group ready before =
    let number : r ≡ 0 + r = omega arith in
    first_found (is_ready graph taken) 0 graph.group r g in_group (subst (λ m. is_ready graph taken (m, g) ≡ true) number ready)
    (λ q h less there. let other : q ≡ 0 + q = omega arith in subst (λ m. is_ready graph taken (m, h) ≡ false) other (before q h less there))

pub none_ready_next : (graph : Graph) (taken : List ℕ) → ((q h : ℕ) → IsIn graph h q → is_ready graph taken (q, h) ≡ false) → next_group graph taken ≡ None
none_ready_next graph taken none =
    none_found (is_ready graph taken) 0 graph.group (λ q h there. let other : q ≡ 0 + q = omega arith in subst (λ m. is_ready graph taken (m, h) ≡ false) other (none q h there))

pub all_from : (p : ℕ → Bool) (xs : List ℕ) → ((x : ℕ) → is_taken xs x ≡ true → p x ≡ true) → list_all p xs ≡ true
all_from p [] each = refl
all_from p (x ∷ xs) each = rw (each x (rw (eq-eqb x x refl) refl)) (all_from p xs (λ y taken. each y (or_right _ _ taken)))
