-- What a pick among pairs of a selector and a value says of the values.
use Rattle.std.proofs.Common.{◌≡◌, ℕ, Bool, true, false, ◌&&◌, ◌||◌, cond, eqb, leb, eqb-true, eq-eqb, List, [], ◌∷◌, Option, Some, None, refl, sym, subst, ap, ◌∙◌, arith, map, filter, find}
use Rattle.std.proofs.lemmas.Bool.{false≢true}
use Rattle.std.proofs.lemmas.Bool.Decides.{nat_tests}
use Rattle.linear_range.specs.Values.{least_pair, greatest_pair, lesser_pair, greater_pair}
use Rattle.std.specs.List.{list_any}

-- a number is in a list
abbrev pub has : ℕ → List ℕ → Bool
has v ns = list_any (eqb v) ns

pub or_true : (a : Bool) → (a || true) ≡ true
or_true true = refl
or_true false = refl

pub left_true : (a b : Bool) → (a && b) ≡ true → a ≡ true
left_true true b is = refl
left_true false b is = is

and_false : (b : Bool) → false ≡ (b && false)
and_false true = refl
and_false false = refl

keeps_passing : (ok : ℕ → Bool) (v n : ℕ) (rest w : Bool) → eqb v n ≡ w → ok n ≡ true → (w || (ok v && rest)) ≡ (ok v && (w || rest))
keeps_passing ok v n rest true is passes = let e : ok v ≡ true = ap ok (eqb-true v n is) ∙ passes in rw e
keeps_passing ok v n rest false is passes = refl

drops_failing : (ok : ℕ → Bool) (v n : ℕ) (rest w : Bool) → eqb v n ≡ w → ok n ≡ false → (ok v && rest) ≡ (ok v && (w || rest))
drops_failing ok v n rest true is fails = let e : ok v ≡ false = ap ok (eqb-true v n is) ∙ fails in rw e
drops_failing ok v n rest false is fails = refl

has-filter_step : (ok : ℕ → Bool) (v n : ℕ) (ns : List ℕ) (t : Bool) → ok n ≡ t → has v (filter ok ns) ≡ (ok v && has v ns)
    → has v (cond t (n ∷ filter ok ns) (filter ok ns)) ≡ (ok v && (eqb v n || has v ns))
has-filter_step ok v n ns true is ih = ap (λ b. eqb v n || b) ih ∙ keeps_passing ok v n (has v ns) (eqb v n) refl is
has-filter_step ok v n ns false is ih = ih ∙ drops_failing ok v n (has v ns) (eqb v n) refl is

-- a filter by a test keeps the numbers that pass it
pub has-filter : (ok : ℕ → Bool) (v : ℕ) (ns : List ℕ) → has v (filter ok ns) ≡ (ok v && has v ns)
has-filter ok v [] = and_false (ok v)
has-filter ok v (n ∷ ns) = has-filter_step ok v n ns (ok n) refl (has-filter ok v ns)

pub right_true : (a b : Bool) → (a && b) ≡ true → b ≡ true
right_true true b is = is
right_true false b is = absurd (false≢true is)

both_true : (a b : Bool) → a ≡ true → b ≡ true → (a && b) ≡ true
both_true a b p q = rw (p, q)

-- the values of pairs
abbrev pub values : List (ℕ × ℕ) → List ℕ
values ps = map (λ p. p.1) ps

-- the pair is the first with its value
abbrev pub IsFirst : List (ℕ × ℕ) → ℕ × ℕ → Type 0
IsFirst ps p = find (λ q. eqb q.1 p.1) ps ≡ Some p

-- a test that prefers one of two values, or the first of two that are alike
pub record IsChoice (keep : ℕ → ℕ → Bool) : Type 0 where
  pub itself : (a : ℕ) → keep a a ≡ true
  pub goes_on : (a b c : ℕ) → keep a b ≡ true → keep b c ≡ true → keep a c ≡ true
  pub either : (a b : ℕ) → keep a b ≡ false → keep b a ≡ true
  pub apart : (a b : ℕ) → keep a b ≡ false → eqb a b ≡ false

pub lowest : IsChoice leb
lowest = record {
  itself = λ a. grind (arith, nat_tests);
  goes_on = λ a b c p q. grind (arith, nat_tests);
  either = λ a b p. grind (arith, nat_tests);
  apart = λ a b p. grind (arith, nat_tests);
}

pub highest : IsChoice (λ a b. leb b a)
highest = record {
  itself = λ a. grind (arith, nat_tests);
  goes_on = λ a b c p q. grind (arith, nat_tests);
  either = λ a b p. grind (arith, nat_tests);
  apart = λ a b p. grind (arith, nat_tests);
}

-- the preferred one of a pair and what may be a pair
abbrev pub preferred : (ℕ → ℕ → Bool) → ℕ × ℕ → Option (ℕ × ℕ) → ℕ × ℕ
preferred keep p None = p
preferred keep p (Some q) = cond (keep p.1 q.1) p q

-- the most preferred pair, at its first place
abbrev pub best : (ℕ → ℕ → Bool) → List (ℕ × ℕ) → Option (ℕ × ℕ)
best keep [] = None
best keep (p ∷ ps) = Some (preferred keep p (best keep ps))

lesser-is : (p : ℕ × ℕ) (o : Option (ℕ × ℕ)) → lesser_pair p o ≡ preferred leb p o
lesser-is p None = refl
lesser-is p (Some q) = refl

greater-is : (p : ℕ × ℕ) (o : Option (ℕ × ℕ)) → greater_pair p o ≡ preferred (λ a b. leb b a) p o
greater-is p None = refl
greater-is p (Some q) = refl

pub least_pair-is : (ps : List (ℕ × ℕ)) → least_pair ps ≡ best leb ps
least_pair-is [] = refl
least_pair-is (p ∷ ps) = ap Some (lesser-is p (least_pair ps) ∙ ap (preferred leb p) (least_pair-is ps))

pub greatest_pair-is : (ps : List (ℕ × ℕ)) → greatest_pair ps ≡ best (λ a b. leb b a) ps
greatest_pair-is [] = refl
greatest_pair-is (p ∷ ps) = ap Some (greater-is p (greatest_pair ps) ∙ ap (preferred (λ a b. leb b a) p) (greatest_pair-is ps))

find-has_step : (v : ℕ) (p q : ℕ × ℕ) (rest : Bool) (o : Option (ℕ × ℕ)) (t : Bool) → eqb q.1 v ≡ t → (o ≡ Some p → rest ≡ true) → cond t (Some q) o ≡ Some p → (eqb v q.1 || rest) ≡ true
find-has_step v p q rest o true same found is = ap (λ b. b || rest) (eq-eqb v q.1 (sym (eqb-true q.1 v same)))
find-has_step v p q rest o false same found is = ap (λ b. eqb v q.1 || b) (found is) ∙ or_true (eqb v q.1)

-- the value of a pair that is found is among the values
pub find-has : (v : ℕ) (p : ℕ × ℕ) (ps : List (ℕ × ℕ)) → find (λ q. eqb q.1 v) ps ≡ Some p → has v (values ps) ≡ true
find-has v p [] is = cc
find-has v p (q ∷ qs) is = find-has_step v p q (has v (values qs)) (find (λ r. eqb r.1 v) qs) (eqb q.1 v) refl (find-has v p qs) is

-- a pair with this value is found among those that pass a test of values which it passes
find-filter_step : (ok : ℕ → Bool) (v : ℕ) (q : ℕ × ℕ) (qs fs : List (ℕ × ℕ)) (t s : Bool) → ok v ≡ true → eqb q.1 v ≡ s → ok q.1 ≡ t → find (λ r. eqb r.1 v) fs ≡ find (λ r. eqb r.1 v) qs
    → find (λ r. eqb r.1 v) (cond t (q ∷ fs) fs) ≡ cond s (Some q) (find (λ r. eqb r.1 v) qs)
find-filter_step ok v q qs fs true s passes same is ih = rw (same, ih)
find-filter_step ok v q qs fs false true passes same is ih = absurd (false≢true (sym is ∙ ap ok (eqb-true q.1 v same) ∙ passes))
find-filter_step ok v q qs fs false false passes same is ih = ih

find-filter : (ok : ℕ → Bool) (v : ℕ) (ps : List (ℕ × ℕ)) → ok v ≡ true → find (λ q. eqb q.1 v) (filter (λ p. ok p.1) ps) ≡ find (λ q. eqb q.1 v) ps
find-filter ok v [] passes = refl
find-filter ok v (q ∷ qs) passes = find-filter_step ok v q qs (filter (λ p. ok p.1) qs) (ok q.1) (eqb q.1 v) passes refl refl (find-filter ok v qs passes)

-- the values of the pairs that pass are the values that pass
values-filter_step : (ok : ℕ → Bool) (q : ℕ × ℕ) (fs : List (ℕ × ℕ)) (vs : List ℕ) (t : Bool) → values fs ≡ vs → values (cond t (q ∷ fs) fs) ≡ cond t (q.1 ∷ vs) vs
values-filter_step ok q fs vs true ih = ap (λ ws. q.1 ∷ ws) ih
values-filter_step ok q fs vs false ih = ih

values-filter : (ok : ℕ → Bool) (ps : List (ℕ × ℕ)) → values (filter (λ p. ok p.1) ps) ≡ filter ok (values ps)
values-filter ok [] = refl
values-filter ok (q ∷ qs) = values-filter_step ok q (filter (λ p. ok p.1) qs) (filter ok (values qs)) (ok q.1) (values-filter ok qs)

module _ (keep : ℕ → ℕ → Bool) (choice : IsChoice keep) where
  none_left : (ps : List (ℕ × ℕ)) → best keep ps ≡ None → ps ≡ []
  none_left [] is = refl
  none_left (p ∷ ps) is = cc

  prefers_one : (q r : ℕ × ℕ) (v : ℕ) (h t s : Bool) → keep q.1 r.1 ≡ t → eqb v q.1 ≡ s → (h ≡ true → keep r.1 v ≡ true) → (s || h) ≡ true → keep (cond t q r).1 v ≡ true
  prefers_one q r v h true true is same rest here = ap (keep q.1) (eqb-true v q.1 same) ∙ choice.itself q.1
  prefers_one q r v h true false is same rest here = choice.goes_on q.1 r.1 v is (rest here)
  prefers_one q r v h false true is same rest here = ap (keep r.1) (eqb-true v q.1 same) ∙ choice.either q.1 r.1 is
  prefers_one q r v h false false is same rest here = rest here

  -- the best is preferred to each
  prefers_by : (q : ℕ × ℕ) (qs : List (ℕ × ℕ)) (v : ℕ) (o : Option (ℕ × ℕ)) (s : Bool) → best keep qs ≡ o → eqb v q.1 ≡ s
      → ((r : ℕ × ℕ) → o ≡ Some r → has v (values qs) ≡ true → keep r.1 v ≡ true)
      → (s || has v (values qs)) ≡ true → keep (preferred keep q o).1 v ≡ true
  prefers_by q qs v None true is same rest here = ap (keep q.1) (eqb-true v q.1 same) ∙ choice.itself q.1
  prefers_by q qs v None false is same rest here = absurd (false≢true (ap (λ ps. has v (values ps)) (sym (none_left qs is)) ∙ here))
  prefers_by q qs v (Some r) s is same rest here = prefers_one q r v (has v (values qs)) (keep q.1 r.1) s refl same (rest r refl) here

  prefers : (ps : List (ℕ × ℕ)) (p : ℕ × ℕ) (v : ℕ) → best keep ps ≡ Some p → has v (values ps) ≡ true → keep p.1 v ≡ true
  prefers [] p v is here = cc
  prefers (q ∷ qs) p v is here =
      let chosen : preferred keep q (best keep qs) ≡ p = cc in
      subst (λ (r : ℕ × ℕ). keep r.1 v ≡ true) chosen (prefers_by q qs v (best keep qs) (eqb v q.1) refl refl (λ r e. prefers qs r v e) here)

  first_itself : (q : ℕ × ℕ) (qs : List (ℕ × ℕ)) → IsFirst (q ∷ qs) q
  first_itself q qs = rw (eq-eqb q.1 q.1 refl)

  first_later : (q r : ℕ × ℕ) (qs : List (ℕ × ℕ)) → eqb q.1 r.1 ≡ false → IsFirst qs r → IsFirst (q ∷ qs) r
  first_later q r qs apart first = rw (apart, first)

  first_one : (q r : ℕ × ℕ) (qs : List (ℕ × ℕ)) (t : Bool) → keep q.1 r.1 ≡ t → IsFirst qs r → IsFirst (q ∷ qs) (cond t q r)
  first_one q r qs true is first = first_itself q qs
  first_one q r qs false is first = first_later q r qs (choice.apart q.1 r.1 is) first

  first_by : (q : ℕ × ℕ) (qs : List (ℕ × ℕ)) (o : Option (ℕ × ℕ)) → ((r : ℕ × ℕ) → o ≡ Some r → IsFirst qs r) → IsFirst (q ∷ qs) (preferred keep q o)
  first_by q qs None rest = first_itself q qs
  first_by q qs (Some r) rest = first_one q r qs (keep q.1 r.1) refl (rest r refl)

  -- the best is the first with its value
  is_first : (ps : List (ℕ × ℕ)) (p : ℕ × ℕ) → best keep ps ≡ Some p → IsFirst ps p
  is_first [] p is = cc
  is_first (q ∷ qs) p is =
      let chosen : preferred keep q (best keep qs) ≡ p = cc in
      subst (IsFirst (q ∷ qs)) chosen (first_by q qs (best keep qs) (λ r e. is_first qs r e))

  -- The best of the pairs whose values pass a test: it passes, no value that passes is preferred to
  -- it, and it is the first of all pairs with its value.
  module _ (ok : ℕ → Bool) (ps : List (ℕ × ℕ)) (p : ℕ × ℕ) (is : best keep (filter (λ q. ok q.1) ps) ≡ Some p) where
    first_passing : IsFirst (filter (λ q. ok q.1) ps) p
    first_passing = is_first (filter (λ q. ok q.1) ps) p is

    passes_and_among : (ok p.1 && has p.1 (values ps)) ≡ true
    passes_and_among =
        sym (has-filter ok p.1 (values ps)) ∙ ap (has p.1) (sym (values-filter ok ps)) ∙ find-has p.1 p (filter (λ q. ok q.1) ps) first_passing

    pub best_passes : ok p.1 ≡ true
    best_passes = left_true (ok p.1) (has p.1 (values ps)) passes_and_among

    pub best_among : has p.1 (values ps) ≡ true
    best_among = right_true (ok p.1) (has p.1 (values ps)) passes_and_among

    pub best_first : IsFirst ps p
    best_first = sym (find-filter ok p.1 ps best_passes) ∙ first_passing

    pub best_preferred : (v : ℕ) → has v (values ps) ≡ true → ok v ≡ true → keep p.1 v ≡ true
    best_preferred v here passing =
        prefers (filter (λ q. ok q.1) ps) p v is (ap (has v) (values-filter ok ps) ∙ has-filter ok v (values ps) ∙ both_true (ok v) (has v (values ps)) passing here)

  -- there is a best one, where a value passes
  pub best_some : (ok : ℕ → Bool) (ps : List (ℕ × ℕ)) (v : ℕ) → has v (values ps) ≡ true → ok v ≡ true → best keep (filter (λ q. ok q.1) ps) ≡ None → ⊥
  best_some ok ps v here passing none =
      let inside = ap (has v) (values-filter ok ps) ∙ has-filter ok v (values ps) ∙ both_true (ok v) (has v (values ps)) passing here in
      false≢true (ap (λ qs. has v (values qs)) (sym (none_left (filter (λ q. ok q.1) ps) none)) ∙ inside)
