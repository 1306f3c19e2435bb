-- A list in the order of a test, each number once, is known by its numbers.
use Rattle.std.proofs.Common.{◌≡◌, ℕ, Bool, true, false, ◌&&◌, ◌||◌, cond, eqb, ltb, eqb-true, eq-eqb, List, [], ◌∷◌, refl, sym, subst, ap, ◌∙◌, arith, filter}
use Rattle.std.specs.List.{list_any}
use Rattle.std.proofs.lemmas.Bool.{false≢true}
use Rattle.std.proofs.lemmas.Bool.Decides.{nat_tests}
use Rattle.regulator_main.specs.Inside.Way.{put_once, in_order}

-- a number is in a list
abbrev pub has : ℕ → List ℕ → Bool
has v ns = list_any (eqb v) ns

-- a test that puts numbers in an order
pub record IsOrder (before : ℕ → ℕ → Bool) : Type 0 where
  pub never_itself : (a : ℕ) → before a a ≡ false
  pub goes_on : (a b c : ℕ) → before a b ≡ true → before b c ≡ true → before a c ≡ true
  pub total : (a b : ℕ) → before a b ≡ false → eqb a b ≡ false → before b a ≡ true

pub upward : IsOrder ltb
upward = record {
  never_itself = λ a. grind (arith, nat_tests);
  goes_on = λ a b c p q. grind (arith, nat_tests);
  total = λ a b p q. grind (arith, nat_tests);
}

pub downward : IsOrder (λ a b. ltb b a)
downward = record {
  never_itself = λ a. grind (arith, nat_tests);
  goes_on = λ a b c p q. grind (arith, nat_tests);
  total = λ a b p q. grind (arith, nat_tests);
}

-- n stands before each of these
abbrev pub Leads : (ℕ → ℕ → Bool) → ℕ → List ℕ → Type 0
Leads before n [] = Unit {0}
Leads before n (m ∷ ms) = (before n m ≡ true) × Leads before n ms

-- each number stands before all behind it
abbrev pub Chain : (ℕ → ℕ → Bool) → List ℕ → Type 0
Chain before [] = Unit {0}
Chain before (n ∷ ns) = Leads before n ns × Chain before ns

module _ (before : ℕ → ℕ → Bool) (order : IsOrder before) where
  leads_on : (a b : ℕ) (ns : List ℕ) → before a b ≡ true → Leads before b ns → Leads before a ns
  leads_on a b [] h l = tt
  leads_on a b (n ∷ ns) h l = (order.goes_on a b n h l.0, leads_on a b ns h l.1)

  leads_put : (a n : ℕ) (ns : List ℕ) → before a n ≡ true → Leads before a ns → Leads before a (put_once before n ns)
  leads_put a n [] h l = (h, tt)
  leads_put a n (m ∷ ms) h l =
      elim (before n m) as (λ t. Leads before a (cond t (n ∷ m ∷ ms) (cond (eqb n m) (m ∷ ms) (m ∷ put_once before n ms)))) [
        | true ↦ (h, l)
        | false ↦ elim (eqb n m) as (λ u. Leads before a (cond u (m ∷ ms) (m ∷ put_once before n ms))) [
          | true ↦ l
          | false ↦ (l.0, leads_put a n ms h l.1)
        ]
      ]

  chain_put_step : (n m : ℕ) (ms : List ℕ) (t u : Bool) → before n m ≡ t → eqb n m ≡ u → Chain before (m ∷ ms) → Chain before (put_once before n ms)
      → Chain before (cond t (n ∷ m ∷ ms) (cond u (m ∷ ms) (m ∷ put_once before n ms)))
  chain_put_step n m ms true u is same chain put = ((is, leads_on n m ms is chain.0), chain)
  chain_put_step n m ms false true is same chain put = chain
  chain_put_step n m ms false false is same chain put = (leads_put m n ms (order.total n m is same) chain.0, put)

  chain_put : (n : ℕ) (ns : List ℕ) → Chain before ns → Chain before (put_once before n ns)
  chain_put n [] chain = (tt, tt)
  chain_put n (m ∷ ms) chain = chain_put_step n m ms (before n m) (eqb n m) refl refl chain (chain_put n ms chain.1)

  -- what is put in order is in order
  pub Chain-in_order : (ns : List ℕ) → Chain before (in_order before ns)
  Chain-in_order [] = tt
  Chain-in_order (n ∷ ns) = chain_put n (in_order before ns) (Chain-in_order ns)

or_swap : (a b c : Bool) → (a || (b || c)) ≡ (b || (a || c))
or_swap true true c = refl
or_swap true false c = refl
or_swap false true c = refl
or_swap false false c = refl

pub or_true : (a : Bool) → (a || true) ≡ true
or_true true = refl
or_true false = refl

or_twice : (a c : Bool) → (a || c) ≡ (a || (a || c))
or_twice true c = refl
or_twice false c = refl

has_put_step : (before : ℕ → ℕ → Bool) (v n m : ℕ) (ms : List ℕ) (t u : Bool) → eqb n m ≡ u → has v (put_once before n ms) ≡ (eqb v n || has v ms)
    → has v (cond t (n ∷ m ∷ ms) (cond u (m ∷ ms) (m ∷ put_once before n ms))) ≡ (eqb v n || (eqb v m || has v ms))
has_put_step before v n m ms true u is ih = refl
has_put_step before v n m ms false true is ih = rw (eqb-true n m is) (or_twice (eqb v m) (has v ms))
has_put_step before v n m ms false false is ih = ap (λ b. eqb v m || b) ih ∙ or_swap (eqb v m) (eqb v n) (has v ms)

has_put : (before : ℕ → ℕ → Bool) (v n : ℕ) (ns : List ℕ) → has v (put_once before n ns) ≡ (eqb v n || has v ns)
has_put before v n [] = refl
has_put before v n (m ∷ ms) = has_put_step before v n m ms (before n m) (eqb n m) refl (has_put before v n ms)

-- what is put in order has the same numbers
pub has-in_order : (before : ℕ → ℕ → Bool) (v : ℕ) (ns : List ℕ) → has v (in_order before ns) ≡ has v ns
has-in_order before v [] = refl
has-in_order before v (n ∷ ns) = has_put before v n (in_order before ns) ∙ ap (λ b. eqb v n || b) (has-in_order before v ns)

pub and_false : (b : Bool) → false ≡ (b && false)
and_false true = refl
and_false false = refl

keeps_passing : (ok : ℕ → Bool) (v n : ℕ) (rest w : Bool) → eqb v n ≡ w → ok n ≡ true → (w || (ok v && rest)) ≡ (ok v && (w || rest))
keeps_passing ok v n rest true is passes = let e : ok v ≡ true = ap ok (eqb-true v n is) ∙ passes in rw e
keeps_passing ok v n rest false is passes = refl

drops_failing : (ok : ℕ → Bool) (v n : ℕ) (rest w : Bool) → eqb v n ≡ w → ok n ≡ false → (ok v && rest) ≡ (ok v && (w || rest))
drops_failing ok v n rest true is fails = let e : ok v ≡ false = ap ok (eqb-true v n is) ∙ fails in rw e
drops_failing ok v n rest false is fails = refl

has-filter_step : (ok : ℕ → Bool) (v n : ℕ) (ns : List ℕ) (t : Bool) → ok n ≡ t → has v (filter ok ns) ≡ (ok v && has v ns)
    → has v (cond t (n ∷ filter ok ns) (filter ok ns)) ≡ (ok v && (eqb v n || has v ns))
has-filter_step ok v n ns true is ih = ap (λ b. eqb v n || b) ih ∙ keeps_passing ok v n (has v ns) (eqb v n) refl is
has-filter_step ok v n ns false is ih = ih ∙ drops_failing ok v n (has v ns) (eqb v n) refl is

-- a filter by a test keeps the numbers that pass it
pub has-filter : (ok : ℕ → Bool) (v : ℕ) (ns : List ℕ) → has v (filter ok ns) ≡ (ok v && has v ns)
has-filter ok v [] = and_false (ok v)
has-filter ok v (n ∷ ns) = has-filter_step ok v n ns (ok n) refl (has-filter ok v ns)

-- each number of a list that has this
pub leads_all : (before : ℕ → ℕ → Bool) (a : ℕ) (ns : List ℕ) → ((v : ℕ) → has v ns ≡ true → before a v ≡ true) → Leads before a ns
leads_all before a [] h = tt
leads_all before a (n ∷ ns) h =
    (h n (ap (λ b. b || has n ns) (eq-eqb n n refl)), leads_all before a ns (λ v is. h v (rw is (or_true (eqb v n)))))

led_step : (before : ℕ → ℕ → Bool) (a v n : ℕ) (ns : List ℕ) (t : Bool) → eqb v n ≡ t → (before a n ≡ true) → (has v ns ≡ true → before a v ≡ true) → (t || has v ns) ≡ true → before a v ≡ true
led_step before a v n ns true same first rest is = ap (before a) (eqb-true v n same) ∙ first
led_step before a v n ns false same first rest is = rest is

pub led : (before : ℕ → ℕ → Bool) (a v : ℕ) (ns : List ℕ) → Leads before a ns → has v ns ≡ true → before a v ≡ true
led before a v [] leads is = absurd (false≢true is)
led before a v (n ∷ ns) leads is = led_step before a v n ns (eqb v n) refl leads.0 (led before a v ns leads.1) is

module _ (before : ℕ → ℕ → Bool) (order : IsOrder before) where
  not_itself_by : (a : ℕ) (ns : List ℕ) (t : Bool) → has a ns ≡ t → Leads before a ns → t ≡ false
  not_itself_by a ns true is leads = absurd (false≢true (sym (order.never_itself a) ∙ led before a a ns leads is))
  not_itself_by a ns false is leads = refl

  -- what leads a list is not in it
  not_itself : (a : ℕ) (ns : List ℕ) → Leads before a ns → has a ns ≡ false
  not_itself a ns leads = not_itself_by a ns (has a ns) refl leads

  heads_by : (x y : ℕ) (xs ys : List ℕ) (t : Bool) → eqb x y ≡ t → Leads before x xs → Leads before y ys
      → (true ≡ (t || has x ys)) → ((eqb y x || has y xs) ≡ true) → x ≡ y
  heads_by x y xs ys true is p q here there = eqb-true x y is
  heads_by x y xs ys false is p q here there =
      let back : eqb y x ≡ false = grind (arith, nat_tests) in
      let y_in_xs : has y xs ≡ true = sym (ap (λ b. b || has y xs) back) ∙ there in
      let y_before_x = led before y x ys q (sym here) in
      let x_before_y = led before x y xs p y_in_xs in
      absurd (false≢true (sym (order.never_itself x) ∙ order.goes_on x y x x_before_y y_before_x))

  tails_by : (x v : ℕ) (xs ys : List ℕ) (t : Bool) → eqb v x ≡ t → Leads before x xs → Leads before x ys
      → ((t || has v xs) ≡ (t || has v ys)) → has v xs ≡ has v ys
  tails_by x v xs ys true is p q same =
      let e = eqb-true v x is in
      ap (λ w. has w xs) e ∙ not_itself x xs p ∙ sym (ap (λ w. has w ys) e ∙ not_itself x ys q)
  tails_by x v xs ys false is p q same = same

  -- two chains with the same numbers are one
  pub same_chain : (xs ys : List ℕ) → Chain before xs → Chain before ys → ((v : ℕ) → has v xs ≡ has v ys) → xs ≡ ys
  same_chain [] [] p q same = refl
  same_chain [] (y ∷ ys) p q same = absurd (false≢true (same y ∙ ap (λ b. b || has y ys) (eq-eqb y y refl)))
  same_chain (x ∷ xs) [] p q same = absurd (false≢true (sym (same x) ∙ ap (λ b. b || has x xs) (eq-eqb x x refl)))
  same_chain (x ∷ xs) (y ∷ ys) p q same =
      let e = heads_by x y xs ys (eqb x y) refl p.0 q.0 (sym (ap (λ b. b || has x xs) (eq-eqb x x refl)) ∙ same x) (same y ∙ ap (λ b. b || has y ys) (eq-eqb y y refl)) in
      let q' : Leads before x ys = subst (λ (z : ℕ). Leads before z ys) (sym e) q.0 in
      let tails = same_chain xs ys p.1 q.1 (λ v. tails_by x v xs ys (eqb v x) refl p.0 q' (same v ∙ ap (λ z. eqb v z || has v ys) (sym e))) in
      rw (e, tails)
