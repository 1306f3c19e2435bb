-- The members of a list that is filtered, mapped, or changed at a place.
use Rattle.std.proofs.Common.{◌≡◌, ◌↔◌, ◌⊎◌, ℕ, zero, suc, ◌<◌, Bool, true, false, cond, List, [], ◌∷◌, ◌++◌, Option, Some, None, IsSome, refl, sym, ap, ◌∙◌, subst, inl, inr, arith, length, get_or, remove, slice_get, slice_set, filter, filter_map, find, Contains}
use Rattle.std.specs.List.{cons_option, list_all}
use Rattle.std.proofs.lemmas.List.Elements.{All-contains, All-contains_itself, All-filter, Contains-append_left, Contains-get_or, Contains-push, Contains-push_cases, filter_passes}
use Rattle.std.proofs.lemmas.Option.{same_Some}
use Rattle.std.proofs.lemmas.List.Sums.{AllPass-from_list_all, list_all-from_AllPass}

both_ways : (a b : Bool) → (a ≡ true → b ≡ true) → (b ≡ true → a ≡ true) → a ≡ b
both_ways true b there back = sym (there refl)
both_ways false true there back = back refl
both_ways false false there back = refl

module _ {X : Type 0} where
  first : (x y : X) (xs : List X) → x ≡ y → Contains (x ∷ xs) y
  first x y xs same = (0, omega arith, same)

  behind : (x y : X) (xs : List X) → Contains xs y → Contains (x ∷ xs) y
  behind x y xs there = (suc there.0, omega (arith, there.1), there.2)

  first_or_behind_at : (x y : X) (xs : List X) (k : ℕ) → k < length (x ∷ xs) → get_or (x ∷ xs) k y ≡ y → (x ≡ y) ⊎ Contains xs y
  first_or_behind_at x y xs zero within is = inl is
  first_or_behind_at x y xs (suc k) within is = inr (k, omega (arith, within), is)

  pub first_or_behind : (x y : X) (xs : List X) → Contains (x ∷ xs) y → (x ≡ y) ⊎ Contains xs y
  first_or_behind x y xs there = first_or_behind_at x y xs there.0 there.1 there.2

  none_in : (y : X) {P : Type 0} → Contains [] y → P
  none_in y there = absurd (omega (arith, there.1))

  -- a list that is filtered
  behind_some : (t : Bool) (x y : X) (xs : List X) → Contains xs y → Contains (cond t (x ∷ xs) xs) y
  behind_some true x y xs there = behind x y xs there
  behind_some false x y xs there = there

  pub Contains-filter : (p : X → Bool) (xs : List X) (y : X) → Contains xs y → p y ≡ true → Contains (filter p xs) y
  Contains-filter p [] y there passes = none_in y there
  Contains-filter p (x ∷ xs) y there passes =
      elim (first_or_behind x y xs there) [
        | inl same ↦ rw (ap p same ∙ passes) (first x y (filter p xs) same)
        | inr rest ↦ behind_some (p x) x y (filter p xs) (Contains-filter p xs y rest passes)
      ]

  pub Contains-from_filter : (p : X → Bool) (xs : List X) (y : X) → Contains (filter p xs) y → Contains xs y × (p y ≡ true)
  Contains-from_filter p xs y there = (
    All-contains (Contains xs) (filter p xs) y (All-filter p (Contains xs) xs (All-contains_itself xs)) there,
    subst (λ x. p x ≡ true) there.2 (filter_passes p xs there.0 y there.1),
  )

  -- a list with another element at a place
  pub Contains-from_set : (xs : List X) (at : ℕ) (new y : X) → Contains (slice_set xs at new) y → Contains (remove xs at ++ new ∷ []) y
  Contains-from_set [] at new y there = none_in y there
  Contains-from_set (x ∷ xs) zero new y there =
      elim (first_or_behind new y xs there) [
        | inl same ↦ subst (Contains (xs ++ new ∷ [])) same (Contains-push xs new)
        | inr rest ↦ Contains-append_left xs (new ∷ []) y rest
      ]
  Contains-from_set (x ∷ xs) (suc at) new y there =
      elim (first_or_behind x y (slice_set xs at new) there) [
        | inl same ↦ first x y (remove xs at ++ new ∷ []) same
        | inr rest ↦ behind x y (remove xs at ++ new ∷ []) (Contains-from_set xs at new y rest)
      ]

  pub Contains-set : (xs : List X) (at : ℕ) (new y : X) → at < length xs → Contains (remove xs at ++ new ∷ []) y → Contains (slice_set xs at new) y
  Contains-set [] at new y within there = absurd (omega (arith, within))
  Contains-set (x ∷ xs) zero new y within there =
      elim (Contains-push_cases xs new y there) [
        | inl rest ↦ behind new y xs rest
        | inr same ↦ first new y xs same
      ]
  Contains-set (x ∷ xs) (suc at) new y within there =
      elim (first_or_behind x y (remove xs at ++ new ∷ []) there) [
        | inl same ↦ first x y (slice_set xs at new) same
        | inr rest ↦ behind x y (slice_set xs at new) (Contains-set xs at new y (omega (arith, within)) rest)
      ]

  -- what a test of all elements says depends on the members alone
  passed : (p : X → Bool) (xs ys : List X) → ((x : X) → Contains ys x → Contains xs x) → list_all p xs ≡ true → list_all p ys ≡ true
  passed p xs ys among all =
      list_all-from_AllPass p ys (λ k d within.
      let there = among (get_or ys k d) (Contains-get_or ys k d within) in
      subst (λ x. p x ≡ true) there.2 (AllPass-from_list_all p xs all there.0 (get_or ys k d) there.1))

  pub list_all-members : (p : X → Bool) (xs ys : List X) → ((x : X) → Contains xs x ↔ Contains ys x) → list_all p xs ≡ list_all p ys
  list_all-members p xs ys same = both_ways (list_all p xs) (list_all p ys) (passed p xs ys (λ x. (same x).1)) (passed p ys xs (λ x. (same x).0))

  found : (p : X → Bool) (x : X) (xs : List X) (t : Bool) → IsSome (find p xs) → IsSome (cond t (Some x) (find p xs))
  found p x xs true there = refl
  found p x xs false there = there

  -- where a member passes, one is found
  pub IsSome-find : (p : X → Bool) (xs : List X) (y : X) → Contains xs y → p y ≡ true → IsSome (find p xs)
  IsSome-find p [] y there passes = none_in y there
  IsSome-find p (x ∷ xs) y there passes =
      elim (first_or_behind x y xs there) [
        | inl same ↦ rw (ap p same ∙ passes) refl
        | inr rest ↦ found p x xs (p x) (IsSome-find p xs y rest passes)
      ]

-- what a function gives of the elements
module _ {X Y : Type 0} (f : X → Option Y) where
  behind_given : (o : Option Y) (y : Y) (ys : List Y) → Contains ys y → Contains (cons_option o ys) y
  behind_given None y ys there = there
  behind_given (Some z) y ys there = behind z y ys there

  pub Contains-filter_map : (xs : List X) (x : X) (y : Y) → Contains xs x → f x ≡ Some y → Contains (filter_map f xs) y
  Contains-filter_map [] x y there is = none_in x there
  Contains-filter_map (z ∷ zs) x y there is =
      elim (first_or_behind z x zs there) [
        | inl same ↦ rw (ap f same ∙ is) (first y y (filter_map f zs) refl)
        | inr rest ↦ behind_given (f z) y (filter_map f zs) (Contains-filter_map zs x y rest is)
      ]

  abbrev Given : List X → Y → Type 0
  Given xs y = (x : X) × Contains xs x × (f x ≡ Some y)

  given_behind : (z : X) (zs : List X) (y : Y) → Given zs y → Given (z ∷ zs) y
  given_behind z zs y given = (given.0, behind z given.0 zs given.1, given.2)

  given_step : (z : X) (zs : List X) (y : Y) (o : Option Y) → f z ≡ o → (Contains (filter_map f zs) y → Given zs y) → Contains (cons_option o (filter_map f zs)) y → Given (z ∷ zs) y
  given_step z zs y None is rest there = given_behind z zs y (rest there)
  given_step z zs y (Some w) is rest there =
      elim (first_or_behind w y (filter_map f zs) there) [
        | inl same ↦ (z, first z z zs refl, is ∙ ap Some same)
        | inr tail ↦ given_behind z zs y (rest tail)
      ]

  pub Contains-from_filter_map : (xs : List X) (y : Y) → Contains (filter_map f xs) y → (x : X) × Contains xs x × (f x ≡ Some y)
  Contains-from_filter_map [] y there = none_in y there
  Contains-from_filter_map (z ∷ zs) y there = given_step z zs y (f z) refl (Contains-from_filter_map zs y) there

  -- another element of which the same is given
  pub filter_map-set_same : (xs : List X) (at : ℕ) (old new : X) → slice_get xs at ≡ Some old → f new ≡ f old → filter_map f (slice_set xs at new) ≡ filter_map f xs
  filter_map-set_same [] at old new is same = refl
  filter_map-set_same (x ∷ xs) zero old new is same = ap (λ o. cons_option o (filter_map f xs)) (same ∙ ap f (sym (same_Some x old is)))
  filter_map-set_same (x ∷ xs) (suc at) old new is same = ap (cons_option (f x)) (filter_map-set_same xs at old new is same)
