-- The values that one rail takes on its way, one after another in one direction.
use Rattle.std.proofs.Common.{◌≡◌, ℕ, zero, suc, ◌+◌, ◌<◌, ◌≤◌, Bool, true, false, cond, ltb, List, [], ◌∷◌, Option, Some, None, ◌⊎◌, inl, inr, refl, sym, ap, ◌∙◌, subst, arith, filter, fold, All, Contains}
use Rattle.std.specs.Prelude.{count_by, if◌then◌else◌}
use Rattle.std.specs.List.{best_of}
use Rattle.std.proofs.lemmas.Bool.{ltb-true, lt-ltb, cases_lt, cases_Bool, both_ways, true≢false, false_from_ne_true}
use Rattle.std.proofs.lemmas.List.{get_or_default}
use Rattle.std.proofs.lemmas.List.Elements.{All-nil, All-cons, All-head, All-tail, All-contains, All-weaker, filter_passes}
use Rattle.std.proofs.lemmas.List.Sums.{sum_by-cons}
use Rattle.std.proofs.lemmas.Option.{same_Some}
use Rattle.rail_law.specs.Way.{first_by, next_value}
use Rattle.rail_law.proofs.Admissible.{in_filtered}

-- a test that puts numbers in an order
pub record IsOrdering (before : ℕ → ℕ → Bool) : Type 0 where
  pub itself : (a : ℕ) → before a a ≡ false
  pub goes_on : (a b c : ℕ) → before a b ≡ true → before b c ≡ true → before a c ≡ true
  pub parts : (a b c : ℕ) → before a c ≡ true → (before a b ≡ true) ⊎ (before b c ≡ true)
  pub apart : (a b : ℕ) → before a b ≡ false → before b a ≡ false → a ≡ b

pub upward : IsOrdering ltb
upward = record {
  itself = λ a. false_from_ne_true _ (λ is. absurd (omega (arith, ltb-true a a is)));
  goes_on = λ a b c p q. lt-ltb a c (omega (arith, ltb-true a b p, ltb-true b c q));
  parts = λ a b c p. elim (cases_lt a b) [
    | inl less ↦ inl (lt-ltb a b less)
    | inr most ↦ inr (lt-ltb b c (omega (arith, ltb-true a c p)))
  ];
  apart = λ a b p q. elim (cases_lt a b) [
    | inl less ↦ absurd (both_ways _ p (lt-ltb a b less))
    | inr most ↦ elim (cases_lt b a) [ inl less ↦ absurd (both_ways _ q (lt-ltb b a less)) | inr least ↦ omega arith ]
  ];
}

pub downward : IsOrdering (λ a b. ltb b a)
downward = record {
  itself = λ a. upward.itself a;
  goes_on = λ a b c p q. upward.goes_on c b a q p;
  parts = λ a b c p. elim (upward.parts c b a p) [ inl first ↦ inr first | inr second ↦ inl second ];
  apart = λ a b p q. upward.apart a b q p;
}

-- the values from one on, so many at the most, until none is before the goal
abbrev pub run_on : (ℕ → List ℕ) → Option ℕ → List ℕ
run_on rest None = []
run_on rest (Some v) = v ∷ rest v

abbrev pub run : (ℕ → ℕ → Bool) → List ℕ → ℕ → ℕ → ℕ → List ℕ
run before values goal zero u = []
run before values goal (suc most) u = if before u goal then run_on (run before values goal most) (next_value before values u) else []

-- where one stands after these values
abbrev pub end_of : ℕ → List ℕ → ℕ
end_of u vs = fold (λ a v. v) u vs

in_more : {A : Type 0} (x y : A) (xs : List A) → Contains xs x → Contains (y ∷ xs) x
in_more x y xs has = (suc has.0, omega (arith, has.1), has.2)

in_wider : (a x b : ℕ) (xs : List ℕ) → Contains (a ∷ xs) b → Contains (a ∷ x ∷ xs) b
in_wider a x b xs (zero, within, is) = (0, omega arith, is)
in_wider a x b xs (suc k, within, is) = (suc (suc k), omega arith, is)

-- the next value behind u: it is one of the values, and none stands between
pub record IsNextValue (before : ℕ → ℕ → Bool) (values : List ℕ) (u v : ℕ) : Type 0 where
  pub among : Contains values v
  pub behind : before u v ≡ true
  pub nearest : All (λ w. before u w ≡ true → before w v ≡ false) values

-- what passes a filter is in the list
filtered_by : {A : Type 0} (x w : A) (xs ys : List A) (t : Bool) → (Contains ys w → Contains xs w) → Contains (cond t (x ∷ ys) ys) w → Contains (x ∷ xs) w
filtered_by x w xs ys true rest (zero, within, is) = (0, omega arith, is)
filtered_by x w xs ys true rest (suc k, within, is) = in_more w x xs (rest (k, omega arith, is))
filtered_by x w xs ys false rest has = in_more w x xs (rest has)

pub filtered : {A : Type 0} (p : A → Bool) (xs : List A) (w : A) → Contains (filter p xs) w → Contains xs w
filtered p [] w has = has
filtered p (x ∷ xs) w has = filtered_by x w xs (filter p xs) (p x) (filtered p xs w) has

-- where a narrower test fails at one that passes, fewer pass it
no_more_by : (s t : Bool) (m n : ℕ) → (s ≡ true → t ≡ true) → m ≤ n → cond s 1 0 + m ≤ cond t 1 0 + n
no_more_by true true m n wider rest = omega arith
no_more_by true false m n wider rest = absurd (cc (wider refl))
no_more_by false true m n wider rest = omega arith
no_more_by false false m n wider rest = omega arith

fewer_by : (s t : Bool) (m n : ℕ) → (s ≡ true → t ≡ true) → m < n → cond s 1 0 + m < cond t 1 0 + n
fewer_by s t m n wider rest = omega (arith, no_more_by s t (suc m) n wider (omega arith))

weighs_one : (t : Bool) → t ≡ true → cond {A = ℕ} t 1 0 ≡ 1
weighs_one true is = refl
weighs_one false is = absurd (true≢false (sym is))

weighs_none : (t : Bool) → t ≡ false → cond {A = ℕ} t 1 0 ≡ 0
weighs_none true is = absurd (true≢false is)
weighs_none false is = refl

count_cons : (p : ℕ → Bool) (x : ℕ) (xs : List ℕ) → count_by p (x ∷ xs) ≡ cond (p x) 1 0 + count_by p xs
count_cons p x xs = sum_by-cons (λ y. cond (p y) 1 0) x xs

module _ (p q : ℕ → Bool) (wider : (w : ℕ) → q w ≡ true → p w ≡ true) where
  pub no_more : (xs : List ℕ) → count_by q xs ≤ count_by p xs
  no_more [] = omega arith
  no_more (x ∷ xs) = omega (arith, count_cons p x xs, count_cons q x xs, no_more_by (q x) (p x) (count_by q xs) (count_by p xs) (wider x) (no_more xs))

  pub fewer : (xs : List ℕ) (v : ℕ) → Contains xs v → p v ≡ true → q v ≡ false → count_by q xs < count_by p xs
  fewer [] v has passes fails = absurd (omega (arith, has.1))
  fewer (x ∷ xs) v (zero, within, is) passes fails =
      omega (arith, count_cons p x xs, count_cons q x xs, no_more xs, weighs_one (p x) (ap p is ∙ passes), weighs_none (q x) (ap q is ∙ fails))
  fewer (x ∷ xs) v (suc k, within, is) passes fails =
      omega (arith, count_cons p x xs, count_cons q x xs, fewer_by (q x) (p x) (count_by q xs) (count_by p xs) (wider x) (fewer xs v (k, omega arith, is) passes fails))

module _ (before : ℕ → ℕ → Bool) (order : IsOrdering before) where
  -- the best of some values
  pub record IsFirstOf (xs : List ℕ) (b : ℕ) : Type 0 where
    pub among : Contains xs b
    pub first : All (λ w. before w b ≡ false) xs

  best_step : (a x b : ℕ) (xs : List ℕ) (t : Bool) → before x a ≡ t → IsFirstOf (cond t x a ∷ xs) b → IsFirstOf (a ∷ x ∷ xs) b
  best_step a x b xs true is best = record {
    among = in_more b a (x ∷ xs) best.among;
    first = All-cons (λ w. before w b ≡ false) a (x ∷ xs)
        (false_from_ne_true _ (λ less. both_ways _ (All-head (λ w. before w b ≡ false) x xs best.first) (order.goes_on x a b is less)))
        best.first;
  }
  best_step a x b xs false is best =
      let head : before a b ≡ false = All-head (λ w. before w b ≡ false) a xs best.first in
      let tail = All-tail (λ w. before w b ≡ false) a xs best.first in
      record {
        among = in_wider a x b xs best.among;
        first = All-cons (λ w. before w b ≡ false) a (x ∷ xs) head
            (All-cons (λ w. before w b ≡ false) x xs
            (false_from_ne_true _ (λ less. elim (order.parts x a b less) [
              | inl first ↦ absurd (both_ways _ is first)
              | inr second ↦ absurd (both_ways _ head second)
            ]))
            tail);
      }

  best_is : (a : ℕ) (xs : List ℕ) → IsFirstOf (a ∷ xs) (best_of before a xs)
  best_is a [] = record { among = (0, omega arith, refl); first = All-cons (λ w. before w a ≡ false) a [] (order.itself a) (All-nil _) }
  best_is a (x ∷ xs) = best_step a x (best_of before (cond (before x a) x a) xs) xs (before x a) refl (best_is (cond (before x a) x a) xs)

  first_is : (xs : List ℕ) (v : ℕ) → first_by before (λ w. w) xs ≡ Some v → IsFirstOf xs v
  first_is [] v is = absurd (cc)
  first_is (x ∷ xs) v is = subst (IsFirstOf (x ∷ xs)) (same_Some _ _ is) (best_is x xs)

  no_first : (xs : List ℕ) → first_by before (λ w. w) xs ≡ None → xs ≡ []
  no_first [] is = refl
  no_first (x ∷ xs) is = absurd (cc)

  module _ (values : List ℕ) where
    pub next_is : (u v : ℕ) → next_value before values u ≡ Some v → IsNextValue before values u v
    next_is u v is =
        let first = first_is (filter (before u) values) v is in
        record {
          among = filtered (before u) values v first.among;
          behind = All-contains (λ w. before u w ≡ true) (filter (before u) values) v (filter_passes (before u) values) first.among;
          nearest = λ k d within behind.
              All-contains (λ w. before w v ≡ false) (filter (before u) values) _ first.first
              (in_filtered (before u) values _ k within (get_or_default values k _ d within) behind);
        }

    -- where a value is behind u, one is the next
    pub some_next : (u goal : ℕ) → Contains values goal → before u goal ≡ true → next_value before values u ≡ None → ⊥
    some_next u goal has behind none =
        let there : Contains (filter (before u) values) goal = in_filtered (before u) values goal has.0 has.1 has.2 behind in
        let nowhere : Contains {X = ℕ} [] goal = subst (λ (ns : List ℕ). Contains {X = ℕ} ns goal) (no_first (filter (before u) values) none) there in
        absurd (omega (arith, nowhere.1))

    -- the next value does not pass the goal
    pub not_past : (u v goal : ℕ) → Contains values goal → before u goal ≡ true → next_value before values u ≡ Some v → before goal v ≡ false
    not_past u v goal has behind is = All-contains (λ w. before u w ≡ true → before w v ≡ false) values goal ((next_is u v is).nearest) has behind

    -- fewer values are behind it
    fewer_behind : (u v : ℕ) → next_value before values u ≡ Some v → count_by (before v) values < count_by (before u) values
    fewer_behind u v is =
        let next = next_is u v is in
        fewer (before u) (before v) (λ w. order.goes_on u v w next.behind) values v next.among next.behind (order.itself v)

    module _ (goal : ℕ) (has : Contains values goal) where
      -- a value on the way from u to the goal
      pub record IsOnWay (u v : ℕ) : Type 0 where
        pub among : Contains values v
        pub behind : before u v ≡ true
        pub not_past : before goal v ≡ false

      run_all_by : (most u : ℕ) (t : Bool) (next : Option ℕ) → before u goal ≡ t → next_value before values u ≡ next
          → ((v : ℕ) → All (IsOnWay v) (run before values goal most v)) → All (IsOnWay u) (cond t (run_on (run before values goal most) next) [])
      run_all_by most u false next is found rest = All-nil (IsOnWay u)
      run_all_by most u true None is found rest = All-nil (IsOnWay u)
      run_all_by most u true (Some v) is found rest =
          let next = next_is u v found in
          All-cons (IsOnWay u) v (run before values goal most v)
          (record { among = next.among; behind = next.behind; not_past = not_past u v goal has is found })
          (All-weaker (IsOnWay v) (IsOnWay u) (λ w on. record { among = on.among; behind = order.goes_on u v w next.behind on.behind; not_past = on.not_past })
          (run before values goal most v) (rest v))

      -- each value of a run is on the way
      pub run_all : (most u : ℕ) → All (IsOnWay u) (run before values goal most u)
      run_all zero u = All-nil (IsOnWay u)
      run_all (suc most) u = run_all_by most u (before u goal) (next_value before values u) refl refl (run_all most)

      counted : (u : ℕ) → before u goal ≡ true → 0 < count_by (before u) values
      counted u behind = omega (arith, fewer (before u) (λ w. false) (λ w never. absurd (cc)) values goal has behind refl)

      end_by : (most u : ℕ) (t : Bool) (next : Option ℕ) → before u goal ≡ t → next_value before values u ≡ next → before goal u ≡ false
          → ((v : ℕ) → next ≡ Some v → end_of v (run before values goal most v) ≡ goal)
          → end_of u (cond t (run_on (run before values goal most) next) []) ≡ goal
      end_by most u false next is found short rest = order.apart u goal is short
      end_by most u true None is found short rest = absurd (some_next u goal has is found)
      end_by most u true (Some v) is found short rest = rest v refl

      end_short : (u : ℕ) (t : Bool) → before u goal ≡ t → before goal u ≡ false → count_by (before u) values ≤ 0 → u ≡ goal
      end_short u true is short few = absurd (omega (arith, counted u is))
      end_short u false is short few = order.apart u goal is short

      -- a run that may be long enough ends at the goal
      pub end_is : (most u : ℕ) → before goal u ≡ false → count_by (before u) values ≤ most → end_of u (run before values goal most u) ≡ goal
      end_is zero u short few = end_short u (before u goal) refl short few
      end_is (suc most) u short few = elim (cases_Bool (before u goal)) [
        | inl behind ↦ end_by most u (before u goal) (next_value before values u) refl refl short
            (λ v is. end_is most v (not_past u v goal has behind is) (omega (arith, fewer_behind u v is)))
        | inr there ↦ rw there (order.apart u goal there short)
      ]

      nothing_left : (n u : ℕ) → count_by (before u) values ≤ 0 → run before values goal n u ≡ []
      nothing_left zero u few = refl
      nothing_left (suc n) u few =
          let there : before u goal ≡ false = false_from_ne_true _ (λ behind. absurd (omega (arith, counted u behind))) in
          rw there refl

      enough_by : (m n u : ℕ) (t : Bool) (next : Option ℕ) → ((v : ℕ) → next ≡ Some v → run before values goal m v ≡ run before values goal n v)
          → cond t (run_on (run before values goal m) next) [] ≡ cond t (run_on (run before values goal n) next) []
      enough_by m n u false next rest = refl
      enough_by m n u true None rest = refl
      enough_by m n u true (Some v) rest = ap (λ vs. v ∷ vs) (rest v refl)

      -- it is the same, however long it may be beyond that
      pub run_enough : (m n u : ℕ) → count_by (before u) values ≤ m → count_by (before u) values ≤ n → run before values goal m u ≡ run before values goal n u
      run_enough zero n u first second = sym (nothing_left n u first)
      run_enough (suc m) zero u first second = nothing_left (suc m) u second
      run_enough (suc m) (suc n) u first second =
          enough_by m n u (before u goal) (next_value before values u)
          (λ v is. run_enough m n v (omega (arith, fewer_behind u v is)) (omega (arith, fewer_behind u v is)))
