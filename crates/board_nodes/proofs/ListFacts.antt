-- What holds of each element, by recursion.
use Rattle.std.proofs.Common.{◌≡◌, ℕ, suc, List, [], ◌∷◌, ◌++◌, Some, map, refl}
use Rattle.std.specs.List.{All, AllByRecursion, slice_get}
use Rattle.std.proofs.lemmas.List.Elements.{All-head, All-tail}

module _ {X : Type 0} where
  pub all-append : (P : X → Type 0) (xs ys : List X) → AllByRecursion P xs → AllByRecursion P ys → AllByRecursion P (xs ++ ys)
  all-append P [] ys h k = k
  all-append P (x ∷ xs) ys h k = (h.0, all-append P xs ys h.1 k)

  pub all-split : (P : X → Type 0) (xs ys : List X) → AllByRecursion P (xs ++ ys) → AllByRecursion P xs × AllByRecursion P ys
  all-split P [] ys h = (tt, h)
  all-split P (x ∷ xs) ys h = let rest = all-split P xs ys h.1 in ((h.0, rest.0), rest.1)

  pub all-weaker : (P Q : X → Type 0) → ((x : X) → P x → Q x) → (xs : List X) → AllByRecursion P xs → AllByRecursion Q xs
  all-weaker P Q by [] h = tt
  all-weaker P Q by (x ∷ xs) h = (by x h.0, all-weaker P Q by xs h.1)

  pub all-any : (P : X → Type 0) → ((x : X) → P x) → (xs : List X) → AllByRecursion P xs
  all-any P by [] = tt
  all-any P by (x ∷ xs) = (by x, all-any P by xs)

  pub all-from_All : (P : X → Type 0) (xs : List X) → All P xs → AllByRecursion P xs
  all-from_All P [] h = tt
  all-from_All P (x ∷ xs) h = (All-head P x xs h, all-from_All P xs (All-tail P x xs h))

  pub all-from_gets : (P : X → Type 0) (xs : List X) → ((k : ℕ) (x : X) → slice_get xs k ≡ Some x → P x) → AllByRecursion P xs
  all-from_gets P [] h = tt
  all-from_gets P (x ∷ xs) h = (h 0 x refl, all-from_gets P xs (λ k y at. h (suc k) y at))

module _ {X Y : Type 0} (P : Y → Type 0) (f : X → Y) where
  pub all-map : (xs : List X) → AllByRecursion (λ x. P (f x)) xs → AllByRecursion P (map f xs)
  all-map [] h = tt
  all-map (x ∷ xs) h = (h.0, all-map xs h.1)

  pub all-unmap : (xs : List X) → AllByRecursion P (map f xs) → AllByRecursion (λ x. P (f x)) xs
  all-unmap [] h = tt
  all-unmap (x ∷ xs) h = (h.0, all-unmap xs h.1)
