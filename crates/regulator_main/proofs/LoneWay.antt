-- On a board of one rail the way is that of the rail by itself.
use Rattle.std.proofs.Common.{◌≡◌, ℕ, zero, suc, ◌+◌, ◌≤◌, Bool, true, false, not, ◌&&◌, ◌||◌, cond, eqb, ltb, eqb-true, eq-eqb, List, [], ◌∷◌, ◌++◌, Some, refl, sym, ap, ◌∙◌, arith, map, filter, length, sum_by}
use Rattle.std.specs.Prelude.{fold, slice_index, slice_index_or, option_map, option_and_then}
use Rattle.std.proofs.lemmas.Bool.{false≢true}
use Rattle.std.proofs.lemmas.Bool.Decides.{nat_tests}
use Rattle.std.proofs.lemmas.List.{append-nil}
use Rattle.std.proofs.lemmas.List.Sums.{sum_by-cons}
use Rattle.board.specs.Lone.{lone_graph}
use Rattle.rail_law.specs.Way.{first_by, next_rail, next_value, next_step, step_and, steps, after_steps, way as board_way}
use Rattle.regulator_main.specs.Inside.Way.{in_order, put_once, stretch, way}
use Rattle.regulator_main.proofs.Ordered.{has, IsOrder, upward, downward, has-filter, or_true}
use Rattle.regulator_main.proofs.Way.{left_true, stretch-step, stretch-same}
use Rattle.regulator_main.proofs.Nearest.{right_true}
use Rattle.regulator_main.proofs.Steps.{way-rising, way-falling}

module _ (before : ℕ → ℕ → Bool) (order : IsOrder before) where
  -- of a list the one that comes before all others
  abbrev best : ℕ → List ℕ → ℕ
  best a xs = fold (λ b x. cond (before x b) x b) a xs

  record IsBest (b a : ℕ) (xs : List ℕ) : Type 0 where
    among : has b (a ∷ xs) ≡ true
    first : (w : ℕ) → has w (a ∷ xs) ≡ true → before w b ≡ false

  -- what isn't before a, which isn't before b, isn't before b
  never_before : (x a b : ℕ) (e t : Bool) → eqb a b ≡ e → before x b ≡ t → before x a ≡ false → before a b ≡ false → t ≡ false
  never_before x a b e false same is xa ab = refl
  never_before x a b true true same is xa ab = absurd (false≢true (sym xa ∙ ap (before x) (eqb-true a b same) ∙ is))
  never_before x a b false true same is xa ab = absurd (false≢true (sym xa ∙ order.goes_on x b a is (order.total a b ab same)))

  best_step : (b a x : ℕ) (xs : List ℕ) (t : Bool) → before x a ≡ t → IsBest b (cond t x a) xs → IsBest b a (x ∷ xs)
  best_step b a x xs true is rest = record {
    among = ap (λ c. eqb b a || c) rest.among ∙ or_true (eqb b a);
    first = λ w inside. elim (eqb w a) as (λ e. eqb w a ≡ e → (e || has w (x ∷ xs)) ≡ true → before w b ≡ false) [
      | true ↦ λ e inside. rw (eqb-true w a e) (elim (before a b) as (λ t. before a b ≡ t → t ≡ false) [
        | true ↦ λ it. absurd (false≢true (sym (rest.first x (ap (λ c. c || has x xs) (eq-eqb x x refl))) ∙ order.goes_on x a b is it))
        | false ↦ λ it. refl
      ] refl)
      | false ↦ λ e inside. rest.first w inside
    ] refl inside;
  }
  best_step b a x xs false is rest = record {
    among = elim (eqb b a) as (λ e. (e || has b xs) ≡ true → (e || (eqb b x || has b xs)) ≡ true) [
      | true ↦ λ it. refl
      | false ↦ λ it. ap (λ c. eqb b x || c) it ∙ or_true (eqb b x)
    ] rest.among;
    first = λ w inside. elim (eqb w a) as (λ e. eqb w a ≡ e → (e || has w (x ∷ xs)) ≡ true → before w b ≡ false) [
      | true ↦ λ e inside. rest.first w (ap (λ c. c || has w xs) e)
      | false ↦ λ e inside. elim (eqb w x) as (λ d. eqb w x ≡ d → (d || has w xs) ≡ true → before w b ≡ false) [
        | true ↦ λ d inside. rw (eqb-true w x d) (never_before x a b (eqb a b) (before x b) refl refl is (rest.first a (ap (λ c. c || has a xs) (eq-eqb a a refl))))
        | false ↦ λ d inside. rest.first w (ap (λ c. c || has w xs) e ∙ inside)
      ] refl inside
    ] refl inside;
  }

  best_is : (a : ℕ) (xs : List ℕ) → IsBest (best a xs) a xs
  best_is a [] = record {
    among = ap (λ b. b || false) (eq-eqb a a refl);
    first = λ w inside. elim (eqb w a) as (λ e. eqb w a ≡ e → (e || false) ≡ true → before w a ≡ false) [
      | true ↦ λ e it. rw (eqb-true w a e) (order.never_itself a)
      | false ↦ λ e it. absurd (false≢true it)
    ] refl inside;
  }
  best_is a (x ∷ xs) = best_step (best (cond (before x a) x a) xs) a x xs (before x a) refl (best_is (cond (before x a) x a) xs)

  -- the next value on the way to one that is there
  record IsNextValue (values : List ℕ) (from v : ℕ) : Type 0 where
    is : next_value before values from ≡ Some v
    among : has v values ≡ true
    behind : before from v ≡ true
    nearest : (w : ℕ) → has w values ≡ true → before from w ≡ true → before w v ≡ false

  next_in : (fs : List ℕ) (to : ℕ) → has to fs ≡ true → (v : ℕ) × (first_by before (λ w. w) fs ≡ Some v) × (has v fs ≡ true) × ((w : ℕ) → has w fs ≡ true → before w v ≡ false)
  next_in [] to there = absurd (false≢true there)
  next_in (n ∷ ns) to there = let is = best_is n ns in (best n ns, refl, is.among, is.first)

  next_there : (values : List ℕ) (from to : ℕ) → has to values ≡ true → before from to ≡ true → (v : ℕ) × IsNextValue values from v
  next_there values from to there behind =
      let both : (w : ℕ) → has w values ≡ true → before from w ≡ true → has w (filter (before from) values) ≡ true =
      λ w among passes. has-filter (before from) w values ∙ rw (among, passes) in
      let next = next_in (filter (before from) values) to (both to there behind) in
      let inside = sym (has-filter (before from) next.0 values) ∙ next.2 in (
        next.0,
        record {
          is = next.1;
          among = right_true (before from next.0) (has next.0 values) inside;
          behind = left_true (before from next.0) (has next.0 values) inside;
          nearest = λ w among passes. next.3 w (both w among passes);
        },
      )

  -- nothing is on the way to a value that isn't behind
  none_between : (from to : ℕ) (vs : List ℕ) → before from to ≡ false → filter (λ v. before from v && not (before to v)) vs ≡ []
  none_between from to [] ahead = refl
  none_between from to (v ∷ vs) ahead =
      elim (before from v) as (λ t. before from v ≡ t → cond (t && not (before to v)) (v ∷ filter (λ w. before from w && not (before to w)) vs) (filter (λ w. before from w && not (before to w)) vs) ≡ []) [
        | true ↦ λ t. rw (elim (eqb from to) as (λ e. eqb from to ≡ e → before to v ≡ true) [
          | true ↦ λ e. ap (λ u. before u v) (sym (eqb-true from to e)) ∙ t
          | false ↦ λ e. order.goes_on to from v (order.total from to ahead e) t
        ] refl) (none_between from to vs ahead)
        | false ↦ λ t. none_between from to vs ahead
      ] refl

  stretch-none : (values : List ℕ) (from to : ℕ) → before from to ≡ false → stretch before values from to ≡ []
  stretch-none values from to ahead = ap (in_order before) (none_between from to values ahead)

  -- where the value to come to is behind, the way there begins with the next value and ends with it
  abbrev turns : List ℕ
  turns = 0 ∷ []

  abbrev one : List ℕ → ℕ → ℕ → ℕ → List (ℕ × ℕ)
  one values to most from = steps before lone_graph turns (values ∷ []) (to ∷ []) most (from ∷ [])

  record Arrives (values : List ℕ) (to most from : ℕ) : Type 0 where
    same : one values to most from ≡ map (λ v. (0, v)) (stretch before values from to)
    after : after_steps (from ∷ []) (one values to most from) ≡ cond (before from to) to from ∷ []

  arrives_none : (values : List ℕ) (to most from : ℕ) → before from to ≡ false → Arrives values to most from
  arrives_none values to zero from ahead = record { same = ap (map (λ v. (0, v))) (sym (stretch-none values from to ahead)); after = rw ahead refl }
  arrives_none values to (suc most) from ahead = record {
    same = rw ahead (ap (map (λ v. (0, v))) (sym (stretch-none values from to ahead)));
    after = rw ahead refl;
  }

  -- the one rail moves next, and one step comes before those that follow
  rail_is : (to from : ℕ) → before from to ≡ true → next_rail before lone_graph turns (to ∷ []) (from ∷ []) ≡ Some 0
  rail_is to from behind = rw behind (rw behind refl)

  step_is : (values : List ℕ) (to from v : ℕ) → before from to ≡ true → next_value before values from ≡ Some v
      → next_step before lone_graph turns (values ∷ []) (to ∷ []) (from ∷ []) ≡ Some (0, v)
  step_is values to from v behind next =
      ap (option_and_then (λ r. option_map (λ w. (r, w)) (next_value before (slice_index_or (values ∷ []) r []) (slice_index (from ∷ []) r)))) (rail_is to from behind)
      ∙ ap (option_map (λ w. (0, w))) next

  stepping : (values : List ℕ) (to most from v : ℕ) → before from to ≡ true → next_value before values from ≡ Some v
      → one values to (suc most) from ≡ (0, v) ∷ one values to most v
  stepping values to most from v behind next =
      ap (step_and (λ later. steps before lone_graph turns (values ∷ []) (to ∷ []) most later) (from ∷ [])) (step_is values to from v behind next)

  came : (from v to : ℕ) (t : Bool) → before v to ≡ t → before to v ≡ false → cond t to v ≡ to
  came from v to true is passed = refl
  came from v to false is passed = elim (eqb v to) as (λ e. eqb v to ≡ e → v ≡ to) [
    | true ↦ λ e. eqb-true v to e
    | false ↦ λ e. absurd (false≢true (sym passed ∙ order.total v to is e))
  ] refl

  arrives : (values : List ℕ) (to most from : ℕ) (t : Bool) → before from to ≡ t → has to values ≡ true → length (stretch before values from to) ≤ most → Arrives values to most from
  arrives values to most from false is there few = arrives_none values to most from is
  arrives values to zero from true is there few =
      let next = next_there values from to there is in
      let step = stretch-step before order values from next.0 to next.1.among next.1.behind (next.1.nearest to there is) next.1.nearest in
      absurd (omega (arith, few, ap length step))
  arrives values to (suc most) from true is there few =
      let next = next_there values from to there is in
      let v = next.0 in
      let passed = next.1.nearest to there is in
      let step = stretch-step before order values from v to next.1.among next.1.behind passed next.1.nearest in
      let rest = arrives values to most v (before v to) refl there (omega (arith, few, ap length step)) in
      let first = stepping values to most from v is next.1.is in
      record {
        same = first ∙ ap (λ ss. (0, v) ∷ ss) rest.same ∙ ap (map (λ v. (0, v))) (sym step);
        after = ap (after_steps (from ∷ [])) first ∙ rest.after ∙ rw is (ap (λ n. n ∷ []) (came from v to (before v to) refl passed));
      }

length-put_once : (before : ℕ → ℕ → Bool) (n : ℕ) (ns : List ℕ) → length (put_once before n ns) ≤ length ns + 1
length-put_once before n [] = omega arith
length-put_once before n (m ∷ ms) =
    elim (before n m) as (λ t. length (cond t (n ∷ m ∷ ms) (cond (eqb n m) (m ∷ ms) (m ∷ put_once before n ms))) ≤ length (m ∷ ms) + 1) [
      | true ↦ omega arith
      | false ↦ elim (eqb n m) as (λ u. length (cond u (m ∷ ms) (m ∷ put_once before n ms)) ≤ length (m ∷ ms) + 1) [
        | true ↦ omega arith
        | false ↦ omega (arith, length-put_once before n ms)
      ]
    ]

length-in_order : (before : ℕ → ℕ → Bool) (ns : List ℕ) → length (in_order before ns) ≤ length ns
length-in_order before [] = omega arith
length-in_order before (n ∷ ns) = omega (arith, length-put_once before n (in_order before ns), length-in_order before ns)

length-kept : (ok : ℕ → Bool) (ns : List ℕ) → length (filter ok ns) ≤ length ns
length-kept ok [] = omega arith
length-kept ok (n ∷ ns) = elim (ok n) as (λ t. length (cond t (n ∷ filter ok ns) (filter ok ns)) ≤ length (n ∷ ns)) [
  | true ↦ omega (arith, length-kept ok ns)
  | false ↦ omega (arith, length-kept ok ns)
]

length-stretch : (before : ℕ → ℕ → Bool) (values : List ℕ) (from to : ℕ) → length (stretch before values from to) ≤ sum_by length (values ∷ [])
length-stretch before values from to =
    let ok : ℕ → Bool = λ v. before from v && not (before to v) in
    omega (arith, length-in_order before (filter ok values), length-kept ok values, sum_by-cons length values [])

abbrev falls : ℕ → ℕ → Bool
falls a b = ltb b a

abbrev step_of : ℕ → ℕ × ℕ
step_of v = (0, v)

-- up, and then down from where that led: one of the two is all of it
joined : (values : List ℕ) (from to : ℕ) (t : Bool) → ltb from to ≡ t
    → map step_of (stretch ltb values from to) ++ map step_of (stretch falls values (cond t to from) to) ≡ map step_of (way values from to)
joined values from to true is =
    ap (λ vs. map step_of (stretch ltb values from to) ++ map step_of vs) (stretch-same falls downward values to)
    ∙ append-nil (map step_of (stretch ltb values from to))
    ∙ ap (map step_of) (sym (way-rising values from to (grind (arith, nat_tests))))
joined values from to false is =
    ap (λ vs. map step_of vs ++ map step_of (stretch falls values from to)) (stretch-none ltb upward values from to is)
    ∙ ap (map step_of) (sym (way-falling values from to (grind (arith, nat_tests))))

-- the way of a board's one rail is that of the rail by itself
pub lone_way : (values : List ℕ) (from to : ℕ) → has to values ≡ true
    → board_way lone_graph (0 ∷ []) (values ∷ []) (from ∷ []) (to ∷ []) ≡ map step_of (way values from to)
lone_way values from to there =
    let most = sum_by length (values ∷ []) in
    let up = arrives ltb upward values to most from (ltb from to) refl there (length-stretch ltb values from to) in
    let top = cond (ltb from to) to from in
    let down = arrives falls downward values to most top (falls top to) refl there (length-stretch falls values top to) in
    ap (λ now. steps ltb lone_graph (0 ∷ []) (values ∷ []) (to ∷ []) most (from ∷ []) ++ steps falls lone_graph (0 ∷ []) (values ∷ []) (to ∷ []) most now) up.after
    ∙ ap (λ ss. ss ++ steps falls lone_graph (0 ∷ []) (values ∷ []) (to ∷ []) most (top ∷ [])) up.same
    ∙ ap (λ ss. map step_of (stretch ltb values from to) ++ ss) down.same
    ∙ joined values from to (ltb from to) refl
