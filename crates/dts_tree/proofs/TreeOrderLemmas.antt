-- How long the order of a tree is, and that each node stands behind its parent.
use Rattle.std.proofs.Common.{◌≡◌, inl, inr, ℕ, zero, suc, ◌+◌, ◌-◌, ◌<◌, ◌≤◌, List, [], ◌∷◌, ◌++◌, Bool, true, false, not, cond, length, filter, get_or, nat_eq, nat_lt, refl, sym, ap, ◌∙◌, subst, arith, append_assoc}
use Rattle.std.specs.Prelude.{◌⊎◌}
use Rattle.std.proofs.Math.Logic.{⊎_elim}
use Rattle.std.specs.List.{AllByRecursion, range_with_len, flat_map, position_or_len}
use Rattle.std.proofs.lemmas.Bool.{cases_eq, cases_lt, cases_Bool, cond-true, cond-false, eq-eqb, ne_eqb, eqb-true, lt-ltb, le-ltb}
use Rattle.std.proofs.lemmas.List.{length-append, length_push, append-nil}
use Rattle.dts_tree.specs.Order.{children_from, below, in_tree_order}
use Rattle.dts_tree.proofs.OrderLemmas.{IsEarlier, block, block-step, filter-passes, filter-fails}

-- ---- how many nodes there are

below-next : (a k n : ℕ) → cond (nat_lt a (k + 1)) n 0 ≡ cond (nat_lt a k) n 0 + cond (nat_eq a k) n 0
below-next a k n =
    ⊎_elim
    (λ less. rw (cond-true (nat_lt a (k + 1)) n 0 (lt-ltb a (k + 1) (omega (arith, less))), cond-true (nat_lt a k) n 0 (lt-ltb a k less), cond-false (nat_eq a k) n 0 (ne_eqb a k (λ e. omega (arith, e, less)))) (omega arith))
    (λ more. ⊎_elim
    (λ same. rw (cond-true (nat_lt a (k + 1)) n 0 (lt-ltb a (k + 1) (omega (arith, same))), cond-false (nat_lt a k) n 0 (le-ltb a k more), cond-true (nat_eq a k) n 0 (eq-eqb a k same)) (omega arith))
    (λ other. rw (cond-false (nat_lt a (k + 1)) n 0 (le-ltb a (k + 1) (omega (arith, more, other))), cond-false (nat_lt a k) n 0 (le-ltb a k more), cond-false (nat_eq a k) n 0 (ne_eqb a k other)) refl)
    (cases_eq a k))
    (cases_lt a k)

below-one : (a n : ℕ) → cond (nat_lt a 1) n 0 ≡ cond (nat_eq a 0) n 0
below-one a n =
    ⊎_elim
    (λ is. rw (cond-true (nat_lt a 1) n 0 (lt-ltb a 1 (omega (arith, is))), cond-true (nat_eq a 0) n 0 (eq-eqb a 0 is)) refl)
    (λ other. rw (cond-false (nat_lt a 1) n 0 (le-ltb a 1 (omega (arith, other))), cond-false (nat_eq a 0) n 0 (ne_eqb a 0 other)) refl)
    (cases_eq a 0)

module _ (parents : List ℕ) where
  -- how many nodes stand at and below those of m numbers from k on that pass
  abbrev total : (ℕ → Bool) → ℕ → ℕ → ℕ
  total p k zero = 0
  total p k (suc m) = cond (p k) (length (block parents k)) 0 + total p (k + 1) m

  total-blocks : (p : ℕ → Bool) (k m : ℕ) → length (flat_map (block parents) (filter p (range_with_len k m))) ≡ total p k m
  total-blocks p k zero = refl
  total-blocks p k (suc m) =
      let xs : List ℕ = filter p (range_with_len (k + 1) m) in
      let rest = total-blocks p (k + 1) m in
      elim (p k) as (λ (b : Bool). length (flat_map (block parents) (cond b (k ∷ xs) xs)) ≡ cond b (length (block parents k)) 0 + total p (k + 1) m) [
        | true ↦ omega (arith, length-append (block parents k) (flat_map (block parents) xs), rest)
        | false ↦ omega (arith, rest)
      ]

  total-split : (p q r : ℕ → Bool) (k m : ℕ) → ((j n : ℕ) → cond (p j) n 0 ≡ cond (q j) n 0 + cond (r j) n 0) → total p k m ≡ total q k m + total r k m
  total-split p q r k zero h = omega arith
  total-split p q r k (suc m) h = omega (arith, h k (length (block parents k)), total-split p q r (k + 1) m h)

  total-same : (p q : ℕ → Bool) (k m : ℕ) → ((j n : ℕ) → cond (p j) n 0 ≡ cond (q j) n 0) → total p k m ≡ total q k m
  total-same p q k zero h = refl
  total-same p q k (suc m) h = omega (arith, h k (length (block parents k)), total-same p q (k + 1) m h)

  total-skip : (p : ℕ → Bool) (k m n : ℕ) → ((j : ℕ) → k ≤ j → j < k + m → p j ≡ false) → total p k (m + n) ≡ total p (k + m) n
  total-skip p k zero n h =
      let e : 0 + n ≡ n = omega arith in
      let at : k + 0 ≡ k = omega arith in
      rw (e, at) refl
  total-skip p k (suc m) n h =
      let e : suc m + n ≡ suc (m + n) = omega arith in
      let at : k + suc m ≡ (k + 1) + m = omega arith in
      rw (e, at)
      (ap (λ b. cond b (length (block parents k)) 0 + total p (k + 1) (m + n)) (h k (omega arith) (omega arith))
      ∙ omega (arith, total-skip p (k + 1) m n (λ j low high. h j (omega (arith, low)) (omega (arith, high)))))

  module _ (earlier : IsEarlier parents) (some : 0 < length parents) where
    abbrev child_of : ℕ → ℕ → Bool
    child_of x j = nat_eq (get_or parents j 0) x

    block-length : (x : ℕ) → length (block parents x) ≡ 1 + total (child_of x) 1 (length parents - 1)
    unfolding children_from
    block-length x = ap length (block-step parents x earlier some) ∙ omega (arith, total-blocks (child_of x) 1 (length parents - 1))

    -- the nodes from k on whose parents are below k have all nodes from k on at and below them
    rest-total : (d k : ℕ) → 1 ≤ k → k + d ≡ length parents → total (λ j. nat_lt (get_or parents j 0) k) k d ≡ d
    rest-total zero k low long = refl
    rest-total (suc d) k low long =
        let here : cond (nat_lt (get_or parents k 0) k) (length (block parents k)) 0 ≡ length (block parents k) = cond-true (nat_lt (get_or parents k 0) k) (length (block parents k)) 0 (lt-ltb (get_or parents k 0) k (earlier k low (omega (arith, long)))) in
        let count : length parents - 1 ≡ k + d = omega (arith, long) in
        let children : total (child_of k) 1 (k + d) ≡ total (child_of k) (1 + k) d = total-skip (child_of k) 1 k d (λ j from to. ne_eqb (get_or parents j 0) k (λ e. omega (arith, e, earlier j from (omega (arith, to, long)), to))) in
        let at : 1 + k ≡ k + 1 = omega arith in
        let split = total-split (λ j. nat_lt (get_or parents j 0) (k + 1)) (λ j. nat_lt (get_or parents j 0) k) (child_of k) (k + 1) d (λ j n. below-next (get_or parents j 0) k n) in
        let next = rest-total d (k + 1) (omega arith) (omega (arith, long)) in
        let own : length (block parents k) ≡ 1 + total (child_of k) (k + 1) d = block-length k ∙ ap (λ m. 1 + total (child_of k) 1 m) count ∙ ap (λ t. 1 + t) children ∙ ap (λ m. 1 + total (child_of k) m d) at in
        omega (arith, here, own, split, next)

    pub order-length : length (in_tree_order parents) ≡ length parents
    unfolding block
    order-length =
        let rest = rest-total (length parents - 1) 1 (omega arith) (omega (arith, some)) in
        let same = total-same (λ j. nat_lt (get_or parents j 0) 1) (child_of 0) 1 (length parents - 1) (λ j n. below-one (get_or parents j 0) n) in
        block-length 0 ∙ omega (arith, rest, same, some)

-- ---- a node stands behind its parent

abbrev pub Seen : ℕ → List ℕ → Type 0
Seen x xs = position_or_len (nat_eq x) xs < length xs

pub position-wider : {X : Type 0} (p : X → Bool) (xs ys : List X) → position_or_len p xs < length xs → position_or_len p (xs ++ ys) ≡ position_or_len p xs
position-wider p [] ys h = absurd (omega (arith, h))
position-wider p (x ∷ xs) ys h =
    elim (p x) as (λ (b : Bool). cond (not b) (1 + position_or_len p xs) 0 < suc (length xs) → cond (not b) (1 + position_or_len p (xs ++ ys)) 0 ≡ cond (not b) (1 + position_or_len p xs) 0) [
      | true ↦ λ _. refl
      | false ↦ λ later. ap (λ n. 1 + n) (position-wider p xs ys (omega (arith, later)))
    ] h

seen-wider : (x : ℕ) (xs ys : List ℕ) → Seen x xs → Seen x (xs ++ ys)
seen-wider x xs ys h = omega (arith, position-wider (nat_eq x) xs ys h, length-append xs ys, h)

seen-last : (x : ℕ) (xs : List ℕ) → Seen x (xs ++ x ∷ [])
seen-last x [] = rw (eq-eqb x x refl) (omega arith)
seen-last x (y ∷ ys) =
    let rest = seen-last x ys in
    elim (nat_eq x y) as (λ (b : Bool). cond (not b) (1 + position_or_len (nat_eq x) (ys ++ x ∷ [])) 0 < length (y ∷ (ys ++ x ∷ []))) [
      | true ↦ omega arith
      | false ↦ omega (arith, rest)
    ]

module _ (parents : List ℕ) where
  -- each of these has its parent among those seen before it
  abbrev pub Led : List ℕ → List ℕ → Type 0
  Led seen [] = Unit {0}
  Led seen (k ∷ ks) = Seen (get_or parents k 0) seen × Led (seen ++ k ∷ []) ks

  led-append : (seen xs ys : List ℕ) → Led seen xs → Led (seen ++ xs) ys → Led seen (xs ++ ys)
  led-append seen [] ys h more = subst (λ (s : List ℕ). Led s ys) (append-nil seen) more
  led-append seen (x ∷ xs) ys h more = (h.0, led-append (seen ++ x ∷ []) xs ys h.1 (subst (λ (s : List ℕ). Led s ys) (sym (append_assoc seen (x ∷ []) xs)) more))

  led-children : (f x : ℕ) (cs seen : List ℕ) → ((c : ℕ) (s : List ℕ) → Seen (get_or parents c 0) s → Led s (below f parents c)) → Seen x seen → AllByRecursion (λ c. get_or parents c 0 ≡ x) cs → Led seen (flat_map (below f parents) cs)
  led-children f x [] seen each there all = tt
  led-children f x (c ∷ cs) seen each there all =
      led-append seen (below f parents c) (flat_map (below f parents) cs) (each c seen (rw all.0 there))
      (led-children f x cs (seen ++ below f parents c) each (seen-wider x seen (below f parents c) there) all.1)

  all-children : (x k m : ℕ) → AllByRecursion (λ c. get_or parents c 0 ≡ x) (filter (λ j. nat_eq (get_or parents j 0) x) (range_with_len k m))
  all-children x k zero = tt
  all-children x k (suc m) =
      let p : ℕ → Bool = λ j. nat_eq (get_or parents j 0) x in
      let rest = all-children x (k + 1) m in
      let All : List ℕ → Type 0 = AllByRecursion (λ c. get_or parents c 0 ≡ x) in
      ⊎_elim
      (λ here. subst All (sym (filter-passes p k (range_with_len (k + 1) m) here)) (eqb-true (get_or parents k 0) x here, rest))
      (λ other. subst All (sym (filter-fails p k (range_with_len (k + 1) m) other)) rest)
      (cases_Bool (p k))

  led-below : (f c : ℕ) (seen : List ℕ) → Seen (get_or parents c 0) seen → Led seen (below f parents c)
  unfolding below children_from
  led-below zero c seen there = (there, tt)
  led-below (suc f) c seen there = (there, led-children f c (children_from parents c 1) (seen ++ c ∷ []) (led-below f) (seen-last c seen) (all-children c 1 (length parents - 1)))

  led-at : (seen xs : List ℕ) (i : ℕ) → Led seen xs → i < length xs → position_or_len (nat_eq (get_or parents (get_or xs i 0) 0)) (seen ++ xs) < length seen + i
  led-at seen [] i h inside = absurd (omega (arith, inside))
  led-at seen (x ∷ xs) zero h inside = omega (arith, position-wider (nat_eq (get_or parents x 0)) seen (x ∷ xs) h.0, h.0)
  led-at seen (x ∷ xs) (suc i) h inside =
      let rest = led-at (seen ++ x ∷ []) xs i h.1 (omega (arith, inside)) in
      let same = append_assoc seen (x ∷ []) xs in
      omega (arith, rest, length_push seen x, ap (position_or_len (nat_eq (get_or parents (get_or xs i 0) 0))) same)

  order-root : (n : ℕ) → below (suc n) parents 0 ≡ 0 ∷ flat_map (below n parents) (children_from parents 0 1)
  unfolding below
  order-root n = refl

  order-led-from : (n i : ℕ) → 0 < i → i < length (below (suc n) parents 0) → position_or_len (nat_eq (get_or parents (get_or (below (suc n) parents 0) i 0) 0)) (below (suc n) parents 0) < i
  unfolding children_from
  order-led-from n i low inside =
      let rest = flat_map (below n parents) (children_from parents 0 1) in
      let led : Led (0 ∷ []) rest = led-children n 0 (children_from parents 0 1) (0 ∷ []) (led-below n) (omega arith) (all-children 0 1 (length parents - 1)) in
      let at : i ≡ suc (i - 1) = omega (arith, low) in
      let long : length (below (suc n) parents 0) ≡ suc (length rest) = ap length (order-root n) in
      let found = led-at (0 ∷ []) rest (i - 1) led (omega (arith, low, inside, long)) in
      let item : get_or (below (suc n) parents 0) i 0 ≡ get_or rest (i - 1) 0 = ap (λ (xs : List ℕ). get_or xs i 0) (order-root n) ∙ ap (λ (j : ℕ). get_or (0 ∷ rest) j 0) at in
      let here = ap (λ (x : ℕ). position_or_len (nat_eq (get_or parents x 0)) (below (suc n) parents 0)) item ∙ ap (position_or_len (nat_eq (get_or parents (get_or rest (i - 1) 0) 0))) (order-root n) in
      omega (arith, found, here, low)

  order-first-from : (n : ℕ) → get_or (below (suc n) parents 0) 0 0 ≡ 0
  order-first-from n = ap (λ (xs : List ℕ). get_or xs 0 0) (order-root n)

  -- the root stands first
  pub order-first : 0 < length parents → get_or (in_tree_order parents) 0 0 ≡ 0
  order-first some =
      let is : length parents ≡ suc (length parents - 1) = omega (arith, some) in
      subst (λ (n : ℕ). get_or (below n parents 0) 0 0 ≡ 0) (sym is) (order-first-from (length parents - 1))

  -- the parent of a node stands before it
  pub order-led : 0 < length parents → (i : ℕ) → 0 < i → i < length (in_tree_order parents) → position_or_len (nat_eq (get_or parents (get_or (in_tree_order parents) i 0) 0)) (in_tree_order parents) < i
  order-led some i =
      let is : length parents ≡ suc (length parents - 1) = omega (arith, some) in
      let P : ℕ → Type 0 = λ n. 0 < i → i < length (below n parents 0) → position_or_len (nat_eq (get_or parents (get_or (below n parents 0) i 0) 0)) (below n parents 0) < i in
      subst P (sym is) (order-led-from (length parents - 1) i)

-- ---- each node stands somewhere

seen-head : (x : ℕ) (xs : List ℕ) → Seen x (x ∷ xs)
seen-head x xs = rw (eq-eqb x x refl) (omega arith)

seen-behind : (x y : ℕ) (xs : List ℕ) → Seen x xs → Seen x (y ∷ xs)
seen-behind x y xs h =
    elim (nat_eq x y) as (λ (b : Bool). cond (not b) (1 + position_or_len (nat_eq x) xs) 0 < length (y ∷ xs)) [
      | true ↦ omega arith
      | false ↦ omega (arith, h)
    ]

seen-cases : (x y : ℕ) (ys : List ℕ) → Seen x (y ∷ ys) → (x ≡ y) ⊎ Seen x ys
seen-cases x y ys h =
    ⊎_elim
    (λ same. inl same)
    (λ other. (let later : position_or_len (nat_eq x) (y ∷ ys) ≡ 1 + position_or_len (nat_eq x) ys = ap (λ b. cond (not b) (1 + position_or_len (nat_eq x) ys) 0) (ne_eqb x y other) in inr (omega (arith, h, later))))
    (cases_eq x y)

seen-right : (x : ℕ) (xs ys : List ℕ) → Seen x ys → Seen x (xs ++ ys)
seen-right x [] ys h = h
seen-right x (y ∷ xs) ys h = seen-behind x y (xs ++ ys) (seen-right x xs ys h)

seen-split : (x : ℕ) (xs ys : List ℕ) → Seen x (xs ++ ys) → Seen x xs ⊎ Seen x ys
seen-split x [] ys h = inr h
seen-split x (y ∷ xs) ys h =
    ⊎_elim
    (λ same. inl (subst (λ (z : ℕ). Seen x (z ∷ xs)) same (seen-head x xs)))
    (λ later. ⊎_elim (λ left. inl (seen-behind x y xs left)) (λ right. inr right) (seen-split x xs ys later))
    (seen-cases x y (xs ++ ys) h)

blocks-seen : (A : ℕ → List ℕ) (x c : ℕ) (cs : List ℕ) → Seen c cs → Seen x (A c) → Seen x (flat_map A cs)
blocks-seen A x c [] there h = absurd (omega (arith, there))
blocks-seen A x c (d ∷ cs) there h =
    ⊎_elim
    (λ same. seen-wider x (A d) (flat_map A cs) (subst (λ (e : ℕ). Seen x (A e)) same h))
    (λ later. seen-right x (A d) (flat_map A cs) (blocks-seen A x c cs later h))
    (seen-cases c d cs there)

seen-blocks : (A : ℕ → List ℕ) (x : ℕ) (cs : List ℕ) → Seen x (flat_map A cs) → (c : ℕ) × Seen c cs × Seen x (A c)
seen-blocks A x [] h = absurd (omega (arith, h))
seen-blocks A x (c ∷ cs) h =
    ⊎_elim
    (λ here. (c, seen-head c cs, here))
    (λ later. (let rest = seen-blocks A x cs later in (rest.0, seen-behind rest.0 c cs rest.1, rest.2)))
    (seen-split x (A c) (flat_map A cs) h)

seen-filter : (p : ℕ → Bool) (k m z : ℕ) → p z ≡ true → k ≤ z → z < k + m → Seen z (filter p (range_with_len k m))
seen-filter p k zero z passes low high = absurd (omega (arith, low, high))
seen-filter p k (suc m) z passes low high =
    let xs : List ℕ = range_with_len (k + 1) m in
    ⊎_elim
    (λ here. subst (λ (ys : List ℕ). Seen z ys) (sym (filter-passes p k xs (ap p (sym here) ∙ passes))) (subst (λ (j : ℕ). Seen z (j ∷ filter p xs)) here (seen-head z (filter p xs))))
    (λ other.
    let rest = seen-filter p (k + 1) m z passes (omega (arith, low, other)) (omega (arith, high)) in
    ⊎_elim
    (λ first. subst (λ (ys : List ℕ). Seen z ys) (sym (filter-passes p k xs first)) (seen-behind z k (filter p xs) rest))
    (λ none. subst (λ (ys : List ℕ). Seen z ys) (sym (filter-fails p k xs none)) rest)
    (cases_Bool (p k)))
    (cases_eq z k)

filter-seen : (p : ℕ → Bool) (k m z : ℕ) → Seen z (filter p (range_with_len k m)) → (p z ≡ true) × (k ≤ z) × (z < k + m)
filter-seen p k zero z h = absurd (omega (arith, h))
filter-seen p k (suc m) z h =
    let xs : List ℕ = range_with_len (k + 1) m in
    let later : Seen z (filter p xs) → (p z ≡ true) × (k ≤ z) × (z < k + suc m) = λ rest. (let r = filter-seen p (k + 1) m z rest in (r.0, omega (arith, r.1), omega (arith, r.2))) in
    ⊎_elim
    (λ first. ⊎_elim
    (λ here. (ap p here ∙ first, omega (arith, here), omega (arith, here)))
    later
    (seen-cases z k (filter p xs) (subst (λ (ys : List ℕ). Seen z ys) (filter-passes p k xs first) h)))
    (λ none. later (subst (λ (ys : List ℕ). Seen z ys) (filter-fails p k xs none) h))
    (cases_Bool (p k))

module _ (parents : List ℕ) (earlier : IsEarlier parents) where
  below-head : (f z : ℕ) → Seen z (below f parents z)
  unfolding below
  below-head zero z = seen-head z []
  below-head (suc f) z = seen-head z (flat_map (below f parents) (children_from parents z 1))

  child-seen : (x z : ℕ) → get_or parents z 0 ≡ x → 1 ≤ z → z < length parents → Seen z (children_from parents x 1)
  unfolding children_from
  child-seen x z is low high = seen-filter (λ j. nat_eq (get_or parents j 0) x) 1 (length parents - 1) z (eq-eqb (get_or parents z 0) x is) low (omega (arith, low, high))

  seen-child : (x z : ℕ) → Seen z (children_from parents x 1) → x < z
  unfolding children_from
  seen-child x z h =
      let r = filter-seen (λ j. nat_eq (get_or parents j 0) x) 1 (length parents - 1) z h in
      omega (arith, eqb-true (get_or parents z 0) x r.0, earlier z r.1 (omega (arith, r.1, r.2)))

  -- where a node stands, its children stand
  deeper : (f y x z : ℕ) → length parents ≤ f + (y + 1) → Seen x (below f parents y) → get_or parents z 0 ≡ x → 1 ≤ z → z < length parents → Seen z (below f parents y)
  unfolding below
  deeper zero y x z few h is low high =
      ⊎_elim
      (λ same. absurd (omega (arith, same, is, few, earlier z low high, high)))
      (λ none. absurd (omega (arith, none)))
      (seen-cases x y [] h)
  deeper (suc f) y x z few h is low high =
      let cs = children_from parents y 1 in
      seen-behind z y (flat_map (below f parents) cs)
      (⊎_elim
      (λ same. blocks-seen (below f parents) z z cs (child-seen y z (is ∙ same) low high) (below-head f z))
      (λ later.
      let block_ = seen-blocks (below f parents) x cs later in
      let c = block_.0 in
      blocks-seen (below f parents) z c cs block_.1 (deeper f c x z (omega (arith, few, seen-child y c block_.1)) block_.2 is low high))
      (seen-cases x y (flat_map (below f parents) cs) h))

  seen-below : (m k : ℕ) → k < m → k < length parents → Seen k (in_tree_order parents)
  seen-below zero k less inside = absurd (omega (arith, less))
  seen-below (suc m) k less inside =
      ⊎_elim
      (λ root. subst (λ (j : ℕ). Seen j (in_tree_order parents)) (sym root) (below-head (length parents) 0))
      (λ child.
      let before = earlier k (omega (arith, child)) inside in
      deeper (length parents) 0 (get_or parents k 0) k (omega arith) (seen-below m (get_or parents k 0) (omega (arith, before, less)) (omega (arith, before, inside))) refl (omega (arith, child)) inside)
      (cases_eq k 0)

  -- each node stands in the order
  pub all-seen : (k : ℕ) → k < length parents → Seen k (in_tree_order parents)
  all-seen k inside = seen-below (suc k) k (omega arith) inside
