-- Leaders of blocks, and lists that pairs are shared out to.
use Rattle.std.proofs.Common.{◌≡◌, ℕ, zero, suc, ◌+◌, ◌<◌, ◌≤◌, ◌⊎◌, inl, inr, Bool, true, false, cond, List, [], ◌∷◌, ◌++◌, Option, Some, None, length, get_or, filter, flat_map, add-one, append_assoc, refl, sym, ap, ◌∙◌, arith, eq-eqb, eqb-true, nat_eq}
use Rattle.std.specs.Option.{option_or, unwrap_or}
use Rattle.std.specs.List.{range_with_len}
use Rattle.std.proofs.lemmas.Bool.{cases_lt}
use Rattle.std.proofs.lemmas.List.{length_push, get_or_push, get_or_append_left, append-nil}
use Rattle.std.proofs.lemmas.Option.{slice_get-get_or}
use Rattle.board_graph.specs.Inside.Blocks.{AreLeaders, KnowsLeaders, feed_at, feeds_of, led_by}
use Rattle.board_graph.specs.declared.graph.Graph.{Graph}

none_or_some : (there : Option ℕ) (x : ℕ) → there ≡ None → there ≡ Some x → ⊥
none_or_some there x none some = cc

-- the first rails of the groups with one rail more
module _ (groups leaders : List ℕ) (first_of next_of : ℕ → Option ℕ) (count leader : ℕ) (within : count < length groups)
    (is : KnowsLeaders groups leaders first_of count) (led : leader ≡ unwrap_or (first_of (get_or groups count 0)) count)
    (next : (group : ℕ) → next_of group ≡ option_or (first_of group) (cond (nat_eq (get_or groups count 0) group) (Some count) None)) where
  stays_first : (group first : ℕ) → first_of group ≡ Some first → next_of group ≡ Some first
  stays_first group first there = next group ∙ rw there refl

  new_first : next_of (get_or groups count 0) ≡ Some leader
  new_first = by (first_of (get_or groups count 0)) refl where
    by : (there : Option ℕ) → first_of (get_or groups count 0) ≡ there → next_of (get_or groups count 0) ≡ Some leader
    by (Some first) there = stays_first (get_or groups count 0) first there ∙ ap Some (sym (led ∙ ap (λ o. unwrap_or o count) there))
    by None there =
        let here : nat_eq (get_or groups count 0) (get_or groups count 0) ≡ true = eq-eqb (get_or groups count 0) (get_or groups count 0) refl in
        next (get_or groups count 0) ∙ rw there (rw here (ap Some (sym (led ∙ ap (λ o. unwrap_or o count) there))))

  from_first : (group first : ℕ) → next_of group ≡ Some first → (first_of group ≡ Some first) ⊎ ((first ≡ count) × (get_or groups count 0 ≡ group))
  from_first group first there = by (first_of group) refl (nat_eq (get_or groups count 0) group) refl where
    by : (old : Option ℕ) → first_of group ≡ old → (b : Bool) → nat_eq (get_or groups count 0) group ≡ b
        → (first_of group ≡ Some first) ⊎ ((first ≡ count) × (get_or groups count 0 ≡ group))
    by (Some other) old b same =
        let e : Some other ≡ Some first = sym (stays_first group other old) ∙ there in inl (old ∙ e)
    by None old true same =
        let e : Some count ≡ Some first = sym (next group ∙ rw old (rw same refl)) ∙ there in
        inr (cc, eqb-true (get_or groups count 0) group same)
    by None old false same =
        let never : next_of group ≡ None = next group ∙ rw old (rw same refl) in absurd (none_or_some (next_of group) first never there)

  front : (r : ℕ) → r < count → get_or (leaders ++ leader ∷ []) r 0 ≡ get_or leaders r 0
  front r below = get_or_append_left leaders (leader ∷ []) 0 r (omega (arith, is.size))

  last : (r : ℕ) → r ≡ count → get_or (leaders ++ leader ∷ []) r 0 ≡ leader
  last r same = get_or_push leaders leader 0 r (is.size ∙ sym same)

  leader_low : leader ≤ count
  leader_low = by (first_of (get_or groups count 0)) refl where
    by : (there : Option ℕ) → first_of (get_or groups count 0) ≡ there → leader ≤ count
    by (Some first) there = let e : leader ≡ first = led ∙ ap (λ o. unwrap_or o count) there in omega (arith, (is.from (get_or groups count 0) first there).0)
    by None there = let e : leader ≡ count = led ∙ ap (λ o. unwrap_or o count) there in omega arith

  pub knows_more : KnowsLeaders groups (leaders ++ leader ∷ []) next_of (count + 1)
  knows_more = record {
    size = omega (arith, length_push leaders leader, is.size);
    known = λ r below. elim (cases_lt r count) [
      | inl less ↦ rw (front r less) (stays_first (get_or groups r 0) (get_or leaders r 0) (is.known r less))
      | inr more ↦ let same : r ≡ count = omega arith in rw (last r same) (ap (λ k. next_of (get_or groups k 0)) same ∙ new_first)
    ];
    from = λ group first there. elim (from_first group first there) [
      | inl old ↦ let before = is.from group first old in (omega (arith, before.0), before.1)
      | inr new ↦ (omega (arith, new.0), ap (λ k. get_or groups k 0) new.0 ∙ new.1)
    ];
    least = λ r below. elim (cases_lt r count) [
      | inl less ↦ rw (front r less) (is.least r less)
      | inr more ↦ let same : r ≡ count = omega arith in rw (last r same) (omega (arith, leader_low))
    ];
  }

pub knows_all : (groups leaders : List ℕ) (first_of : ℕ → Option ℕ) (count : ℕ) → count ≡ length groups → KnowsLeaders groups leaders first_of count → AreLeaders groups leaders
knows_all groups leaders first_of count all is = record {
  size = is.size ∙ all;
  least = λ r below. is.least r (omega arith);
  block = λ r below.
      let leads = is.from (get_or groups r 0) (get_or leaders r 0) (is.known r (omega arith)) in
      slice_get-get_or groups (get_or leaders r 0) 0 (omega (arith, leads.0)) ∙ ap Some leads.1 ∙ sym (slice_get-get_or groups r 0 below);
  one = λ q r q_in r_in same.
      let there : Some (get_or groups q 0) ≡ Some (get_or groups r 0) = sym (slice_get-get_or groups q 0 q_in) ∙ same ∙ slice_get-get_or groups r 0 r_in in
      let group : get_or groups q 0 ≡ get_or groups r 0 = cc in
      let both : Some (get_or leaders q 0) ≡ Some (get_or leaders r 0) = sym (is.known q (omega arith)) ∙ ap first_of group ∙ is.known r (omega arith) in
      cc;
}

-- one pair more
pub filter_push : {X : Type 0} (test : X → Bool) (xs : List X) (x : X) → filter test (xs ++ x ∷ []) ≡ filter test xs ++ cond (test x) (x ∷ []) []
filter_push test [] x = refl
filter_push test (y ∷ xs) x = by (test y) (filter_push test xs x) where
  by : (b : Bool) → filter test (xs ++ x ∷ []) ≡ filter test xs ++ cond (test x) (x ∷ []) []
      → cond b (y ∷ filter test (xs ++ x ∷ [])) (filter test (xs ++ x ∷ [])) ≡ cond b (y ∷ filter test xs) (filter test xs) ++ cond (test x) (x ∷ []) []
  by true rest = ap (λ ys. y ∷ ys) rest
  by false rest = rest

-- one rail more
flat_map_range : {X : Type 0} (f : ℕ → List X) (a n : ℕ) → flat_map f (range_with_len a (n + 1)) ≡ flat_map f (range_with_len a n) ++ f (a + n)
flat_map_range f a n = rw (add-one n) (by a n) where
  by : (a n : ℕ) → flat_map f (range_with_len a (suc n)) ≡ flat_map f (range_with_len a n) ++ f (a + n)
  by a zero = let e : a ≡ a + 0 = omega arith in append-nil (f a) ∙ ap f e
  by a (suc n) =
      let e : a + 1 + n ≡ a + suc n = omega arith in
      ap (λ ys. f a ++ ys) (by (a + 1) n ∙ ap (λ k. flat_map f (range_with_len (a + 1) n) ++ f k) e) ∙ sym (append_assoc (f a) (flat_map f (range_with_len (a + 1) n)) (f (a + suc n)))

pub feeds_more : (graph : Graph) (leaders : List ℕ) (only_linked : Bool) (n : ℕ) → feeds_of graph leaders only_linked (n + 1) ≡ feeds_of graph leaders only_linked n ++ feed_at graph leaders only_linked n
feeds_more graph leaders only_linked n =
    let e : 0 + n ≡ n = omega arith in
    flat_map_range (feed_at graph leaders only_linked) 0 n ∙ ap (λ k. feeds_of graph leaders only_linked n ++ feed_at graph leaders only_linked k) e

pub range_push : (a n : ℕ) → range_with_len a (n + 1) ≡ range_with_len a n ++ (a + n) ∷ []
range_push a n = rw (add-one n) (by a n) where
  by : (a n : ℕ) → range_with_len a (suc n) ≡ range_with_len a n ++ (a + n) ∷ []
  by a zero = let e : a ≡ a + 0 = omega arith in ap (λ k. k ∷ []) e
  by a (suc n) = let e : a + 1 + n ≡ a + suc n = omega arith in ap (λ ys. a ∷ ys) (by (a + 1) n ∙ ap (λ k. range_with_len (a + 1) n ++ k ∷ []) e)

pub led_more : (leaders : List ℕ) (marks : List Bool) (n : ℕ) → led_by leaders marks (n + 1) ≡ led_by leaders marks n ++ cond (get_or marks (get_or leaders n 0) false) (n ∷ []) []
led_more leaders marks n =
    let e : 0 + n ≡ n = omega arith in
    ap (filter (λ r. get_or marks (get_or leaders r 0) false)) (range_push 0 n ∙ ap (λ k. range_with_len 0 n ++ k ∷ []) e)
    ∙ filter_push (λ r. get_or marks (get_or leaders r 0) false) (range_with_len 0 n) n
