-- What is admissible: the list has it exactly, and the lower and the higher of two rail by rail are too.
use Rattle.std.proofs.Common.{◌≡◌, ℕ, zero, suc, ◌<◌, min, max, Bool, true, false, cond, List, [], ◌∷◌, ◌⊎◌, inl, inr, refl, sym, ap, ◌∙◌, subst, arith, map, length, get_or, filter, flat_map, slice_index, All, Contains, le-leb}
use Rattle.std.specs.List.{AllZip}
use Rattle.std.proofs.lemmas.Bool.{leb-true, and_parts, and_from, cases_lt}
use Rattle.std.proofs.lemmas.List.Elements.{All-nil, All-cons, All-head, All-tail, All-append, All-map, All-weaker, All-filter, filter_passes, All-contains_itself, Contains-append_left, Contains-append_right}
use Rattle.rail_law.specs.Ties.{Tie, is_kept, keep_all}
use Rattle.rail_law.specs.Least.{assignments, admissible, lower, higher, IsAdmissible}

-- what is an element of a list, of one of joined lists, of a mapped or of a filtered one
pub in_mapped : {A B : Type 0} (f : A → B) (xs : List A) (x : A) (k : ℕ) → k < length xs → get_or xs k x ≡ x → Contains (map f xs) (f x)
in_mapped f [] x k within is = absurd (omega arith)
in_mapped f (y ∷ xs) x zero within is = (0, omega arith, ap f is)
in_mapped f (y ∷ xs) x (suc k) within is = let there = in_mapped f xs x k (omega arith) is in (suc there.0, omega (arith, there.1), there.2)

pub in_joined : {A B : Type 0} (f : A → List B) (xs : List A) (x : A) (y : B) (k : ℕ) → k < length xs → get_or xs k x ≡ x → Contains (f x) y → Contains (flat_map f xs) y
in_joined f [] x y k within is has = absurd (omega arith)
in_joined f (z ∷ xs) x y zero within is has = Contains-append_left (f z) (flat_map f xs) y (subst (λ a. Contains (f a) y) (sym is) has)
in_joined f (z ∷ xs) x y (suc k) within is has = Contains-append_right (f z) (flat_map f xs) y (in_joined f xs x y k (omega arith) is has)

pub in_more : {A : Type 0} (x : A) (xs : List A) (y : A) → Contains xs x → Contains (y ∷ xs) x
in_more x xs y has = (suc has.0, omega (arith, has.1), has.2)

in_filtered_by : {A : Type 0} (x : A) (xs : List A) (y : A) (t : Bool) → Contains xs x → Contains (cond t (y ∷ xs) xs) x
in_filtered_by x xs y true has = in_more x xs y has
in_filtered_by x xs y false has = has

pub in_filtered : {A : Type 0} (p : A → Bool) (xs : List A) (x : A) (k : ℕ) → k < length xs → get_or xs k x ≡ x → p x ≡ true → Contains (filter p xs) x
in_filtered p [] x k within is passes = absurd (omega arith)
in_filtered p (y ∷ xs) x zero within is passes =
    let passed : p y ≡ true = ap p is ∙ passes in
    rw passed (0, omega arith, is)
in_filtered p (y ∷ xs) x (suc k) within is passes = in_filtered_by x (filter p xs) y (p y) (in_filtered p xs x k (omega arith) is passes)

-- each assignment takes one value from each list
assigned_by : (values : List ℕ) (choices : List (List ℕ)) (some_values : List ℕ) → All (Contains values) some_values → All (AllZip Contains choices) (assignments choices)
    → All (AllZip Contains (values ∷ choices)) (flat_map (λ value. map (λ vector. value ∷ vector) (assignments choices)) some_values)
assigned_by values choices [] among rest = All-nil _
assigned_by values choices (v ∷ vs) among rest =
    All-append (AllZip Contains (values ∷ choices)) (map (λ vector. v ∷ vector) (assignments choices)) _
    (All-map (AllZip Contains (values ∷ choices)) (λ vector. v ∷ vector) (assignments choices)
    (All-weaker (AllZip Contains choices) (λ vector. AllZip Contains (values ∷ choices) (v ∷ vector)) (λ vector is. (All-head (Contains values) v vs among, is)) (assignments choices) rest))
    (assigned_by values choices vs (All-tail (Contains values) v vs among) rest)

assigned : (choices : List (List ℕ)) → All (AllZip Contains choices) (assignments choices)
assigned [] = All-cons (AllZip Contains []) [] [] tt (All-nil _)
assigned (values ∷ choices) = assigned_by values choices values (All-contains_itself values) (assigned choices)

-- and what does is one
assignment : (choices : List (List ℕ)) (vector : List ℕ) → AllZip Contains choices vector → Contains (assignments choices) vector
assignment [] [] chosen = (0, omega arith, refl)
assignment [] (v ∷ vector) chosen = absurd chosen
assignment (values ∷ choices) [] chosen = absurd chosen
assignment (values ∷ choices) (v ∷ vector) chosen =
    let rest = assignment choices vector chosen.1 in
    let here = chosen.0 in
    in_joined (λ value. map (λ vs. value ∷ vs) (assignments choices)) values v (v ∷ vector) here.0 here.1 here.2
    (in_mapped (λ vs. v ∷ vs) (assignments choices) vector rest.0 rest.1 rest.2)

-- the list has what is admissible, and nothing else
pub all_admissible : (choices : List (List ℕ)) (ties : List Tie) → All (IsAdmissible choices ties) (admissible choices ties)
all_admissible choices ties k d within =
    record {
      chosen = All-filter (λ vector. keep_all vector ties) (AllZip Contains choices) (assignments choices) (assigned choices) k d within;
      kept = filter_passes (λ vector. keep_all vector ties) (assignments choices) k d within;
    }

pub has_admissible : (choices : List (List ℕ)) (ties : List Tie) (vector : List ℕ) → IsAdmissible choices ties vector → Contains (admissible choices ties) vector
has_admissible choices ties vector is =
    let there = assignment choices vector is.chosen in
    in_filtered (λ vs. keep_all vs ties) (assignments choices) vector there.0 there.1 there.2 is.kept

-- the lower and the higher of two, at a rail
pub lower_at : (us vs : List ℕ) (i : ℕ) → slice_index (lower us vs) i ≡ min (slice_index us i) (slice_index vs i)
lower_at [] vs i = omega arith
lower_at (u ∷ us) [] i = omega arith
lower_at (u ∷ us) (v ∷ vs) zero = refl
lower_at (u ∷ us) (v ∷ vs) (suc i) = lower_at us vs i

higher_at : (us vs : List ℕ) (i : ℕ) → length us ≡ length vs → slice_index (higher us vs) i ≡ max (slice_index us i) (slice_index vs i)
higher_at [] [] i same = refl
higher_at [] (v ∷ vs) i same = absurd (omega arith)
higher_at (u ∷ us) [] i same = absurd (omega arith)
higher_at (u ∷ us) (v ∷ vs) zero same = refl
higher_at (u ∷ us) (v ∷ vs) (suc i) same = higher_at us vs i (omega arith)

-- they are chosen from the same lists
min_is : (u v : ℕ) → (min u v ≡ u) ⊎ (min u v ≡ v)
min_is u v = elim (cases_lt u v) [
  | inl less ↦ inl (omega arith)
  | inr most ↦ inr (omega arith)
]

max_is : (u v : ℕ) → (max u v ≡ u) ⊎ (max u v ≡ v)
max_is u v = elim (cases_lt u v) [
  | inl less ↦ inr (omega arith)
  | inr most ↦ inl (omega arith)
]

chosen_one : (values : List ℕ) (u v w : ℕ) → Contains values u → Contains values v → (w ≡ u) ⊎ (w ≡ v) → Contains values w
chosen_one values u v w first second (inl is) = subst (Contains values) (sym is) first
chosen_one values u v w first second (inr is) = subst (Contains values) (sym is) second

chosen_lower : (choices : List (List ℕ)) (us vs : List ℕ) → AllZip Contains choices us → AllZip Contains choices vs → AllZip Contains choices (lower us vs)
chosen_lower [] [] vs first second = tt
chosen_lower [] (u ∷ us) vs first second = absurd first
chosen_lower (values ∷ choices) [] vs first second = absurd first
chosen_lower (values ∷ choices) (u ∷ us) [] first second = absurd second
chosen_lower (values ∷ choices) (u ∷ us) (v ∷ vs) first second = (chosen_one values u v (min u v) first.0 second.0 (min_is u v), chosen_lower choices us vs first.1 second.1)

chosen_higher : (choices : List (List ℕ)) (us vs : List ℕ) → AllZip Contains choices us → AllZip Contains choices vs → AllZip Contains choices (higher us vs)
chosen_higher [] [] vs first second = tt
chosen_higher [] (u ∷ us) vs first second = absurd first
chosen_higher (values ∷ choices) [] vs first second = absurd first
chosen_higher (values ∷ choices) (u ∷ us) [] first second = absurd second
chosen_higher (values ∷ choices) (u ∷ us) (v ∷ vs) first second = (chosen_one values u v (max u v) first.0 second.0 (max_is u v), chosen_higher choices us vs first.1 second.1)

-- a tie of two is one of the lower, and of the higher, of them
kept_lower : (us vs : List ℕ) (tie : Tie) → is_kept us tie ≡ true → is_kept vs tie ≡ true → is_kept (lower us vs) tie ≡ true
kept_lower us vs tie first second =
    le-leb _ _ (omega (arith, leb-true _ _ first, leb-true _ _ second, lower_at us vs tie.low, lower_at us vs tie.high))

kept_higher : (us vs : List ℕ) (tie : Tie) → length us ≡ length vs → is_kept us tie ≡ true → is_kept vs tie ≡ true → is_kept (higher us vs) tie ≡ true
kept_higher us vs tie same first second =
    le-leb _ _ (omega (arith, leb-true _ _ first, leb-true _ _ second, higher_at us vs tie.low same, higher_at us vs tie.high same))

keep_lower : (us vs : List ℕ) (ties : List Tie) → keep_all us ties ≡ true → keep_all vs ties ≡ true → keep_all (lower us vs) ties ≡ true
keep_lower us vs [] first second = refl
keep_lower us vs (tie ∷ ties) first second =
    let one = and_parts _ _ first in
    let other = and_parts _ _ second in
    and_from _ _ (kept_lower us vs tie one.0 other.0) (keep_lower us vs ties one.1 other.1)

keep_higher : (us vs : List ℕ) (ties : List Tie) → length us ≡ length vs → keep_all us ties ≡ true → keep_all vs ties ≡ true → keep_all (higher us vs) ties ≡ true
keep_higher us vs [] same first second = refl
keep_higher us vs (tie ∷ ties) same first second =
    let one = and_parts _ _ first in
    let other = and_parts _ _ second in
    and_from _ _ (kept_higher us vs tie same one.0 other.0) (keep_higher us vs ties same one.1 other.1)

pub admissible_lower : (choices : List (List ℕ)) (ties : List Tie) (us vs : List ℕ) → IsAdmissible choices ties us → IsAdmissible choices ties vs → IsAdmissible choices ties (lower us vs)
admissible_lower choices ties us vs first second =
    record { chosen = chosen_lower choices us vs first.chosen second.chosen; kept = keep_lower us vs ties first.kept second.kept }

as_long_as : (choices : List (List ℕ)) (vs : List ℕ) → AllZip Contains choices vs → length choices ≡ length vs
as_long_as [] [] chosen = refl
as_long_as [] (v ∷ vs) chosen = absurd chosen
as_long_as (values ∷ choices) [] chosen = absurd chosen
as_long_as (values ∷ choices) (v ∷ vs) chosen = ap suc (as_long_as choices vs chosen.1)

pub as_long : (choices : List (List ℕ)) (ties : List Tie) (us vs : List ℕ) → IsAdmissible choices ties us → IsAdmissible choices ties vs → length us ≡ length vs
as_long choices ties us vs first second = sym (as_long_as choices us first.chosen) ∙ as_long_as choices vs second.chosen

pub admissible_higher : (choices : List (List ℕ)) (ties : List Tie) (us vs : List ℕ) → IsAdmissible choices ties us → IsAdmissible choices ties vs → IsAdmissible choices ties (higher us vs)
admissible_higher choices ties us vs first second =
    record {
      chosen = chosen_higher choices us vs first.chosen second.chosen;
      kept = keep_higher us vs ties (as_long choices ties us vs first second) first.kept second.kept;
    }
