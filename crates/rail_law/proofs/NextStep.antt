-- What the next step of a way tells: a rail that is short of its goal, and the nearest of its values; or that none is short.
use Rattle.std.proofs.Common.{◌≡◌, ℕ, zero, suc, ◌<◌, Bool, true, false, cond, List, [], ◌∷◌, Option, Some, None, inl, inr, refl, ap, subst, arith, length, get_or, filter, find, option_map, option_and_then, slice_index, slice_index_or, Contains, ltb, lt-ltb, le-ltb}
use Rattle.std.specs.List.{best_of}
use Rattle.std.proofs.lemmas.Bool.{ltb-true, ltb-false, both_ways, cases_Bool, false_from_ne_true}
use Rattle.std.proofs.lemmas.List.Elements.{All-filter, All-contains, All-contains_itself, filter_passes}
use Rattle.board_graph.specs.declared.graph.Graph.{Graph}
use Rattle.rail_law.specs.Way.{Step, first_by, block_at, is_short, next_rail, next_value, next_step}
use Rattle.rail_law.proofs.Admissible.{in_more, in_filtered}

-- a direction orders the numbers
pub record IsDirection (before : ℕ → ℕ → Bool) : Type 0 where
  pub itself : (a : ℕ) → before a a ≡ false
  pub through : (a b c : ℕ) → before a b ≡ true → before b c ≡ true → before a c ≡ true
  pub apart : (a b : ℕ) → before a b ≡ false → before b a ≡ false → a ≡ b

pub rising : IsDirection ltb
rising = record {
  itself = λ a. le-ltb a a (omega arith);
  through = λ a b c first second. lt-ltb a c (omega (arith, ltb-true a b first, ltb-true b c second));
  apart = λ a b first second. omega (arith, ltb-false a b first, ltb-false b a second);
}

pub falling : IsDirection (λ a b. ltb b a)
falling = record {
  itself = λ a. le-ltb a a (omega arith);
  through = λ a b c first second. lt-ltb c a (omega (arith, ltb-true b a first, ltb-true c b second));
  apart = λ a b first second. omega (arith, ltb-false b a first, ltb-false a b second);
}

-- what a filter keeps was there, and passes
pub kept : {A : Type 0} (p : A → Bool) (xs : List A) (x : A) → Contains (filter p xs) x → Contains xs x × (p x ≡ true)
kept p xs x has = (
  All-contains (Contains xs) (filter p xs) x (All-filter p (Contains xs) xs (All-contains_itself xs)) has,
  All-contains (λ y. p y ≡ true) (filter p xs) x (filter_passes p xs) has,
)

in_none : {A : Type 0} (x : A) → ¬ Contains [] x
in_none x has = absurd (omega (arith, has.1))

-- the first that passes, where any does
found_by : (p : ℕ → Bool) (x n : ℕ) (rest : Option ℕ) (t : Bool) → p x ≡ t → (rest ≡ Some n → p n ≡ true) → cond t (Some x) rest ≡ Some n → p n ≡ true
found_by p x n rest true passes later here = let e : x ≡ n = cc in subst (λ y. p y ≡ true) e passes
found_by p x n rest false passes later there = later there

found : (p : ℕ → Bool) (xs : List ℕ) (n : ℕ) → find p xs ≡ Some n → p n ≡ true
found p [] n is = absurd (cc)
found p (x ∷ xs) n is = found_by p x n (find p xs) (p x) refl (found p xs n) is

not_found_by : (x : ℕ) (rest : Option ℕ) (t : Bool) → cond t (Some x) rest ≡ None → (t ≡ false) × (rest ≡ None)
not_found_by x rest true is = absurd (cc)
not_found_by x rest false is = (refl, is)

not_found : (p : ℕ → Bool) (xs : List ℕ) (n k : ℕ) → find p xs ≡ None → k < length xs → get_or xs k n ≡ n → p n ≡ false
not_found p [] n k none within is = absurd (omega arith)
not_found p (x ∷ xs) n zero none within is = subst (λ y. p y ≡ false) is (not_found_by x (find p xs) (p x) none).0
not_found p (x ∷ xs) n (suc k) none within is = not_found p xs n k (not_found_by x (find p xs) (p x) none).1 (omega arith) is

-- in a direction
module _ (before : ℕ → ℕ → Bool) (direction : IsDirection before) where
  not_through : (a b c : ℕ) → before a b ≡ false → before b c ≡ false → before a c ≡ false
  not_through a b c first second = false_from_ne_true (before a c) (λ is. elim (cases_Bool (before b a)) [
    | inl back ↦ both_ways (before b c) second (direction.through b a c back is)
    | inr level ↦ let same : a ≡ b = direction.apart a b first level in both_ways (before b c) second (subst (λ x. before x c ≡ true) same is)
  ])

  -- none comes before the one that comes first by its key
  module _ (key : ℕ → ℕ) where
    abbrev beats : ℕ → ℕ → Bool
    beats a b = before (key a) (key b)

    among_by : (a x : ℕ) (xs : List ℕ) (y : ℕ) (t : Bool) → Contains (cond t x a ∷ xs) y → Contains (a ∷ x ∷ xs) y
    among_by a x xs y true has = in_more y (x ∷ xs) a has
    among_by a x xs y false has = at has.0 has.1 has.2 where
      at : (k : ℕ) → k < length (a ∷ xs) → get_or (a ∷ xs) k y ≡ y → Contains (a ∷ x ∷ xs) y
      at zero within is = (0, omega arith, is)
      at (suc k) within is = (suc (suc k), omega arith, is)

    among : (a : ℕ) (xs : List ℕ) → Contains (a ∷ xs) (best_of beats a xs)
    among a [] = (0, omega arith, refl)
    among a (x ∷ xs) = among_by a x xs (best_of beats (cond (beats x a) x a) xs) (beats x a) (among (cond (beats x a) x a) xs)

    start_by : (a x best : ℕ) (t : Bool) → beats x a ≡ t → beats (cond t x a) best ≡ false → beats a best ≡ false
    start_by a x best true is rest = false_from_ne_true (beats a best) (λ less. both_ways (beats x best) rest (direction.through (key x) (key a) (key best) is less))
    start_by a x best false is rest = rest

    start : (a : ℕ) (xs : List ℕ) → beats a (best_of beats a xs) ≡ false
    start a [] = direction.itself (key a)
    start a (x ∷ xs) = start_by a x (best_of beats (cond (beats x a) x a) xs) (beats x a) refl (start (cond (beats x a) x a) xs)

    second_by : (a x best : ℕ) (t : Bool) → beats x a ≡ t → beats (cond t x a) best ≡ false → beats x best ≡ false
    second_by a x best true is rest = rest
    second_by a x best false is rest = not_through (key x) (key a) (key best) is rest

    none_beats : (a : ℕ) (xs : List ℕ) (y k : ℕ) → k < length (a ∷ xs) → get_or (a ∷ xs) k y ≡ y → beats y (best_of beats a xs) ≡ false
    none_beats a xs y zero within is = subst (λ z. beats z (best_of beats a xs) ≡ false) is (start a xs)
    none_beats a [] y (suc k) within is = absurd (omega arith)
    none_beats a (x ∷ xs) y (suc zero) within is =
        let best = best_of beats (cond (beats x a) x a) xs in
        subst (λ z. beats z best ≡ false) is (second_by a x best (beats x a) refl (start (cond (beats x a) x a) xs))
    none_beats a (x ∷ xs) y (suc (suc k)) within is = none_beats (cond (beats x a) x a) xs y (suc k) (omega arith) is

    first_is : (xs : List ℕ) (n : ℕ) → first_by before key xs ≡ Some n → Contains xs n × ((y : ℕ) → Contains xs y → beats y n ≡ false)
    first_is [] n is = absurd (cc)
    first_is (x ∷ xs) n is =
        let e : best_of beats x xs ≡ n = cc in
        (subst (Contains (x ∷ xs)) e (among x xs), λ y has. subst (λ m. beats y m ≡ false) e (none_beats x xs y has.0 has.1 has.2))

    none_first : (xs : List ℕ) (y : ℕ) → first_by before key xs ≡ None → ¬ Contains xs y
    none_first [] y is = in_none y
    none_first (x ∷ xs) y is = absurd (cc)

  -- the next value is the nearest behind
  pub record IsNextValue (values : List ℕ) (uv next : ℕ) : Type 0 where
    pub among : Contains values next
    pub behind : before uv next ≡ true
    pub nearest : (v : ℕ) → Contains values v → before uv v ≡ true → before v next ≡ false

  value_is : (values : List ℕ) (uv next : ℕ) → next_value before values uv ≡ Some next → IsNextValue values uv next
  value_is values uv next is =
      let first = first_is (λ v. v) (filter (before uv) values) next is in
      let was = kept (before uv) values next first.0 in
      record { among = was.0; behind = was.1; nearest = λ v has behind. first.1 v (in_filtered (before uv) values v has.0 has.1 has.2 behind) }

  no_value : (values : List ℕ) (uv v : ℕ) → next_value before values uv ≡ None → Contains values v → before uv v ≡ true → ⊥
  no_value values uv v none has behind = none_first (λ x. x) (filter (before uv) values) v none (in_filtered (before uv) values v has.0 has.1 has.2 behind)

  -- the next rail is short of its goal, and where there is none no rail is
  module _ (graph : Graph) (turns : List ℕ) (goal now : List ℕ) where
    abbrev short : ℕ → Bool
    short r = is_short before goal now r

    rail_by : (r : ℕ) (first : Option ℕ) → option_and_then (λ x. first_by before (slice_index now) (filter short (block_at graph x))) first ≡ Some r → short r ≡ true
    rail_by r None is = absurd (cc)
    rail_by r (Some x) is = (kept short (block_at graph x) r (first_is (slice_index now) (filter short (block_at graph x)) r is).0).1

    rail_is : (r : ℕ) → next_rail before graph turns goal now ≡ Some r → short r ≡ true
    rail_is r is = rail_by r (find short turns) is

    no_rail_by : (r : ℕ) (first : Option ℕ) → find short turns ≡ first → option_and_then (λ x. first_by before (slice_index now) (filter short (block_at graph x))) first ≡ None
        → ((x : ℕ) → short x ≡ true → Contains (block_at graph x) x) → Contains turns r → short r ≡ false
    no_rail_by r None first none own has = not_found short turns r has.0 first has.1 has.2
    no_rail_by r (Some x) first none own has =
        let passes = found short turns x first in
        let here = own x passes in
        absurd (none_first (slice_index now) (filter short (block_at graph x)) x none (in_filtered short (block_at graph x) x here.0 here.1 here.2 passes))

    no_rail : (r : ℕ) → next_rail before graph turns goal now ≡ None → ((x : ℕ) → short x ≡ true → Contains (block_at graph x) x) → Contains turns r → short r ≡ false
    no_rail r none own has = no_rail_by r (find short turns) refl none own has

    -- the next step is one of a short rail to its next value, and where there is none no rail is short
    module _ (choices : List (List ℕ)) where
      pub record IsNextStep (step : Step) : Type 0 where
        pub short_rail : is_short before goal now step.0 ≡ true
        pub value : IsNextValue (slice_index_or choices step.0 []) (slice_index now step.0) step.1

      of_rail : (r : ℕ) (step : Step) (value : Option ℕ) → option_map (λ v. (r, v)) value ≡ Some step → (r ≡ step.0) × (value ≡ Some step.1)
      of_rail r step None is = absurd (cc)
      of_rail r step (Some v) is = let e : (r, v) ≡ step = cc in (ap (λ p. p.0) e, ap (λ p. Some p.1) e)

      step_by : (step : Step) (rail : Option ℕ) → next_rail before graph turns goal now ≡ rail
          → option_and_then (λ r. option_map (λ v. (r, v)) (next_value before (slice_index_or choices r []) (slice_index now r))) rail ≡ Some step → IsNextStep step
      step_by step None rail is = absurd (cc)
      step_by step (Some r) rail is =
          let both = of_rail r step (next_value before (slice_index_or choices r []) (slice_index now r)) is in
          record {
            short_rail = subst (λ x. short x ≡ true) both.0 (rail_is r rail);
            value = subst (λ x. IsNextValue (slice_index_or choices x []) (slice_index now x) step.1) both.0
                (value_is (slice_index_or choices r []) (slice_index now r) step.1 both.1);
          }

      pub step_is : (step : Step) → next_step before graph turns choices goal now ≡ Some step → IsNextStep step
      step_is step is = step_by step (next_rail before graph turns goal now) refl is

      value_or_none : (r : ℕ) (value : Option ℕ) → option_map {U = Step} (λ v. (r, v)) value ≡ None → value ≡ None
      value_or_none r None is = refl
      value_or_none r (Some v) is = absurd (cc)

      no_step_by : (r : ℕ) (rail : Option ℕ) → next_rail before graph turns goal now ≡ rail
          → option_and_then {U = Step} (λ r. option_map (λ v. (r, v)) (next_value before (slice_index_or choices r []) (slice_index now r))) rail ≡ None
          → ((x : ℕ) → short x ≡ true → Contains (block_at graph x) x × Contains (slice_index_or choices x []) (slice_index goal x)) → Contains turns r → short r ≡ false
      no_step_by r None rail none own has = no_rail r rail (λ x passes. (own x passes).0) has
      no_step_by r (Some x) rail none own has =
          let passes = rail_is x rail in
          absurd (no_value (slice_index_or choices x []) (slice_index now x) (slice_index goal x) (value_or_none x _ none) (own x passes).1 passes)

      pub no_step : (r : ℕ) → next_step before graph turns choices goal now ≡ None
          → ((x : ℕ) → short x ≡ true → Contains (block_at graph x) x × Contains (slice_index_or choices x []) (slice_index goal x)) → Contains turns r → short r ≡ false
      no_step r none own has = no_step_by r (next_rail before graph turns goal now) refl none own has
