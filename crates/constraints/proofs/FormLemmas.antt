-- The first property of several that has another form than it should.
use Rattle.std.proofs.Common.{◌≡◌, ℕ, ◌+◌, ◌<◌, Bool, true, false, List, [], ◌∷◌, ◌++◌, Option, Some, None, length, take, drop, get_or, refl, sym, ap, ◌∙◌, map}
use Rattle.std.specs.List.{find}
use Rattle.std.specs.Option.{option_map, option_or, is_some}
use Rattle.std.proofs.lemmas.List.{take_more, take-append-drop}
use Rattle.std.proofs.lemmas.List.Folds.{find-append}
use Rattle.constraints.specs.declared.prop.Prop.{Prop}
use Rattle.constraints.specs.declared.prop.Prop.TheVariants as prop
use Rattle.constraints.specs.Faults.{first_wrong}

-- the first wrong one of two lists
option_map-or : (o p : Option (Prop × Bool)) → option_map (λ (form : Prop × Bool). form.0) (option_or o p) ≡ option_or (option_map (λ (form : Prop × Bool). form.0) o) (option_map (λ (form : Prop × Bool). form.0) p)
option_map-or None p = refl
option_map-or (Some form) p = refl

pub first_wrong-append : (xs ys : List (Prop × Bool)) → first_wrong (xs ++ ys) ≡ option_or (first_wrong xs) (first_wrong ys)
first_wrong-append xs ys = ap (option_map (λ (form : Prop × Bool). form.0)) (find-append (λ form. form.1) xs ys) ∙ option_map-or (find (λ form. form.1) xs) (find (λ form. form.1) ys)

-- ---- property by property

module _ (test : Prop → Bool) where
  abbrev pub tested : List Prop → List (Prop × Bool)
  tested properties = map (λ property. (property, test property)) properties

  abbrev one : Prop → Option Prop
  one property = first_wrong ((property, test property) ∷ [])

  tested-append : (xs ys : List Prop) → tested (xs ++ ys) ≡ tested xs ++ tested ys
  tested-append [] ys = refl
  tested-append (x ∷ xs) ys = ap (λ forms. (x, test x) ∷ forms) (tested-append xs ys)

  first_wrong-more : (xs : List Prop) (i : ℕ) (d : Prop) → i < length xs → first_wrong (tested (take i xs)) ≡ None → first_wrong (tested (take (i + 1) xs)) ≡ one (get_or xs i d)
  first_wrong-more xs i d inside none =
      let property = get_or xs i d in
      ap (λ ps. first_wrong (tested ps)) (take_more xs i d inside)
      ∙ ap first_wrong (tested-append (take i xs) (property ∷ []))
      ∙ first_wrong-append (tested (take i xs)) ((property, test property) ∷ [])
      ∙ ap (λ o. option_or o (one property)) none

  -- one more that is right
  pub still_none : (xs : List Prop) (i : ℕ) (d : Prop) → i < length xs → first_wrong (tested (take i xs)) ≡ None → test (get_or xs i d) ≡ false → first_wrong (tested (take (i + 1) xs)) ≡ None
  still_none xs i d inside none right = first_wrong-more xs i d inside none ∙ ap (λ b. first_wrong ((get_or xs i d, b) ∷ [])) right

  -- one more that is wrong
  pub first_found : (xs : List Prop) (i : ℕ) (d : Prop) → i < length xs → first_wrong (tested (take i xs)) ≡ None → test (get_or xs i d) ≡ true → Some (get_or xs i d) ≡ first_wrong (tested xs)
  first_found xs i d inside none wrong =
      let property = get_or xs i d in
      let here : first_wrong (tested (take (i + 1) xs)) ≡ Some property = first_wrong-more xs i d inside none ∙ ap (λ b. first_wrong ((property, b) ∷ [])) wrong in
      sym (
      ap (λ ps. first_wrong (tested ps)) (sym (take-append-drop (i + 1) xs))
      ∙ ap first_wrong (tested-append (take (i + 1) xs) (drop (i + 1) xs))
      ∙ first_wrong-append (tested (take (i + 1) xs)) (tested (drop (i + 1) xs))
      ∙ ap (λ o. option_or o (first_wrong (tested (drop (i + 1) xs)))) here)

-- ---- group by group

module _ (named : Bool) (numbers modes couples asleep : List (Prop × Bool)) where
  abbrev whole : List (Prop × Bool)
  whole = (prop.Name, named) ∷ numbers ++ modes ++ couples ++ asleep

  -- the groups one behind another
  groups : named ≡ false → first_wrong whole ≡ option_or (option_or (option_or (first_wrong numbers) (first_wrong modes)) (first_wrong couples)) (first_wrong asleep)
  groups right =
      first_wrong-append ((prop.Name, named) ∷ numbers ++ modes ++ couples) asleep
      ∙ ap (λ o. option_or o (first_wrong asleep)) (
      first_wrong-append ((prop.Name, named) ∷ numbers ++ modes) couples
      ∙ ap (λ o. option_or o (first_wrong couples)) (
      first_wrong-append ((prop.Name, named) ∷ numbers) modes
      ∙ ap (λ b. option_or (first_wrong ((prop.Name, b) ∷ numbers)) (first_wrong modes)) right))

  pub wrong_by_number : (o : Option Prop) → named ≡ false → o ≡ first_wrong numbers → is_some o ≡ true → o ≡ first_wrong whole
  wrong_by_number None right is some = absurd (cc)
  wrong_by_number (Some property) right is some =
      ap (λ o. option_or (option_or (option_or o (first_wrong modes)) (first_wrong couples)) (first_wrong asleep)) is ∙ sym (groups right)

  pub wrong_by_mode : (o p : Option Prop) → named ≡ false → o ≡ first_wrong numbers → is_some o ≡ false → p ≡ first_wrong modes → is_some p ≡ true → p ≡ first_wrong whole
  wrong_by_mode (Some property) p right is none same some = absurd (cc)
  wrong_by_mode None None right is none same some = absurd (cc)
  wrong_by_mode None (Some property) right is none same some =
      ap (λ q. option_or (option_or (option_or None q) (first_wrong couples)) (first_wrong asleep)) same
      ∙ ap (λ o. option_or (option_or (option_or o (first_wrong modes)) (first_wrong couples)) (first_wrong asleep)) is
      ∙ sym (groups right)

  pub wrong_behind : (o p q : Option Prop) → named ≡ false → o ≡ first_wrong numbers → is_some o ≡ false → p ≡ first_wrong modes → is_some p ≡ false → q ≡ first_wrong couples
      → option_or q (first_wrong asleep) ≡ first_wrong whole
  wrong_behind (Some property) p q right is none same missing told = absurd (cc)
  wrong_behind None (Some property) q right is none same missing told = absurd (cc)
  wrong_behind None None q right is none same missing told =
      ap (λ q. option_or (option_or (option_or None None) q) (first_wrong asleep)) told
      ∙ ap (λ p. option_or (option_or (option_or None p) (first_wrong couples)) (first_wrong asleep)) same
      ∙ ap (λ o. option_or (option_or (option_or o (first_wrong modes)) (first_wrong couples)) (first_wrong asleep)) is
      ∙ sym (groups right)

  pub wrong_by_couples : (o p q : Option Prop) → named ≡ false → o ≡ first_wrong numbers → is_some o ≡ false → p ≡ first_wrong modes → is_some p ≡ false → q ≡ first_wrong couples
      → is_some q ≡ true → q ≡ first_wrong whole
  wrong_by_couples o p None right is none same missing told some = absurd (cc)
  wrong_by_couples o p (Some property) right is none same missing told some = wrong_behind o p (Some property) right is none same missing told

  pub wrong_asleep : (o p q : Option Prop) → named ≡ false → o ≡ first_wrong numbers → is_some o ≡ false → p ≡ first_wrong modes → is_some p ≡ false → q ≡ first_wrong couples
      → is_some q ≡ false → first_wrong asleep ≡ first_wrong whole
  wrong_asleep o p None right is none same missing told others = wrong_behind o p None right is none same missing told
  wrong_asleep o p (Some property) right is none same missing told others = absurd (cc)
