-- What the elements of a list are that was filtered, mapped or searched for its least or its greatest.
use Rattle.std.proofs.Common.{◌≡◌, ℕ, zero, suc, ◌≤◌, Bool, true, false, cond, List, [], ◌∷◌, Option, Some, None, ◌⊎◌, inl, inr, refl, sym, ap, ◌∙◌, subst, arith, max, leb, filter, Contains}
use Rattle.std.specs.Prelude.{All, fold}
use Rattle.std.specs.List.{filter_map, cons_option}
use Rattle.std.proofs.lemmas.Bool.{leb-true, leb-false, cases_lt}
use Rattle.std.proofs.lemmas.List.Elements.{All-nil, All-cons, All-weaker}
use Rattle.board.specs.Rail.{lesser, least}

module _ {X : Type 0} where
  pub first_among : (x : X) (xs : List X) → Contains (x ∷ xs) x
  first_among x xs = (0, omega arith, refl)

  pub later_among : (x y : X) (xs : List X) → Contains xs y → Contains (x ∷ xs) y
  later_among x y xs among = (suc among.0, omega (arith, among.1), among.2)

  pub among_cases : (x y : X) (xs : List X) → Contains (x ∷ xs) y → (x ≡ y) ⊎ Contains xs y
  among_cases x y xs (zero, within, is) = inl is
  among_cases x y xs (suc k, within, is) = inr (k, omega arith, is)

  -- what a filter keeps is of the list, and passes
  passed_by : (test : X → Bool) (x y : X) (xs kept : List X) (b : Bool) → test x ≡ b → (Contains kept y → Contains xs y × (test y ≡ true))
      → Contains (cond b (x ∷ kept) kept) y → Contains (x ∷ xs) y × (test y ≡ true)
  passed_by test x y xs kept true passes rest among = elim (among_cases x y kept among) [
    | inl here ↦ (subst (Contains (x ∷ xs)) here (first_among x xs), subst (λ (z : X). test z ≡ true) here passes)
    | inr there ↦ (later_among x y xs (rest there).0, (rest there).1)
  ]
  passed_by test x y xs kept false fails rest among = (later_among x y xs (rest among).0, (rest among).1)

  pub passed : (test : X → Bool) (xs : List X) (y : X) → Contains (filter test xs) y → Contains xs y × (test y ≡ true)
  passed test [] y among = absurd (omega (arith, among.1))
  passed test (x ∷ xs) y among = passed_by test x y xs (filter test xs) (test x) refl (passed test xs y) among

  -- what is of the list and passes is kept
  pub kept : (test : X → Bool) (xs : List X) (y : X) → Contains xs y → test y ≡ true → Contains (filter test xs) y
  kept test [] y among passes = absurd (omega (arith, among.1))
  kept test (x ∷ xs) y among passes = elim (among_cases x y xs among) [
    | inl here ↦ let first : test x ≡ true = subst (λ (z : X). test z ≡ true) (sym here) passes in rw first (subst (Contains (x ∷ filter test xs)) here (first_among x (filter test xs)))
    | inr there ↦ by (test x) (kept test xs y there passes)
  ] where
    by : (b : Bool) → Contains (filter test xs) y → Contains (cond b (x ∷ filter test xs) (filter test xs)) y
    by true rest = later_among x y (filter test xs) rest
    by false rest = rest

-- what a map gives of some elements
module _ {X Y : Type 0} (f : X → Option Y) where
  pub mapped : (xs : List X) (x : X) (y : Y) → Contains xs x → f x ≡ Some y → Contains (filter_map f xs) y
  mapped [] x y among is = absurd (omega (arith, among.1))
  mapped (first ∷ xs) x y among is = elim (among_cases first x xs among) [
    | inl here ↦ let e : f first ≡ Some y = ap f here ∙ is in rw e (first_among y (filter_map f xs))
    | inr there ↦ by (f first) (mapped xs x y there is)
  ] where
    by : (o : Option Y) → Contains (filter_map f xs) y → Contains (cons_option o (filter_map f xs)) y
    by None rest = rest
    by (Some z) rest = later_among z y (filter_map f xs) rest

  pub mapped_from : (xs : List X) (y : Y) → Contains (filter_map f xs) y → (x : X) × Contains xs x × (f x ≡ Some y)
  mapped_from [] y among = absurd (omega (arith, among.1))
  mapped_from (first ∷ xs) y among = by (f first) refl (mapped_from xs y) among where
    later : (Contains (filter_map f xs) y → (x : X) × Contains xs x × (f x ≡ Some y)) → Contains (filter_map f xs) y → (x : X) × Contains (first ∷ xs) x × (f x ≡ Some y)
    later rest there = let found = rest there in (found.0, later_among first found.0 xs found.1, found.2)

    by : (o : Option Y) → f first ≡ o → (Contains (filter_map f xs) y → (x : X) × Contains xs x × (f x ≡ Some y))
        → Contains (cons_option o (filter_map f xs)) y → (x : X) × Contains (first ∷ xs) x × (f x ≡ Some y)
    by None is rest there = later rest there
    by (Some z) is rest there = elim (among_cases z y (filter_map f xs) there) [
      | inl here ↦ (first, first_among first xs, is ∙ ap Some here)
      | inr further ↦ later rest further
    ]

-- the greatest of a list and a number
pub max_among : (a : ℕ) (xs : List ℕ) → (fold max a xs ≡ a) ⊎ Contains xs (fold max a xs)
max_among a [] = inl refl
max_among a (x ∷ xs) = elim (max_among (max a x) xs) [
  | inl is ↦ elim (cases_lt a x) [
    | inl more ↦ let e : x ≡ fold max (max a x) xs = omega arith in inr (0, omega arith, e)
    | inr less ↦ inl (omega arith)
  ]
  | inr there ↦ inr (later_among x _ xs there)
]

pub max_not_below : (a : ℕ) (xs : List ℕ) → a ≤ fold max a xs
max_not_below a [] = omega arith
max_not_below a (x ∷ xs) = omega (arith, max_not_below (max a x) xs)

pub max_above : (a : ℕ) (xs : List ℕ) (y : ℕ) → Contains xs y → y ≤ fold max a xs
max_above a [] y among = absurd (omega (arith, among.1))
max_above a (x ∷ xs) y among = elim (among_cases x y xs among) [
  | inl here ↦ omega (arith, max_not_below (max a x) xs)
  | inr there ↦ max_above (max a x) xs y there
]

-- the least of a list
abbrev pub IsLeastOf : List ℕ → Option ℕ → Type 0
IsLeastOf xs None = xs ≡ []
IsLeastOf xs (Some n) = Contains xs n × All (λ x. n ≤ x) xs

least_step : (x : ℕ) (xs : List ℕ) (o : Option ℕ) → IsLeastOf xs o → IsLeastOf (x ∷ xs) (Some (lesser x o))
least_step x xs None none = (first_among x xs, All-cons (λ y. x ≤ y) x xs (omega arith) (rw none (All-nil (λ y. x ≤ y))))
least_step x xs (Some n) (among, all) = by (leb x n) refl where
  by : (b : Bool) → leb x n ≡ b → IsLeastOf (x ∷ xs) (Some (cond b x n))
  by true less = (first_among x xs, All-cons (λ y. x ≤ y) x xs (omega arith) (All-weaker (λ y. n ≤ y) (λ y. x ≤ y) (λ y above. omega (arith, leb-true x n less)) xs all))
  by false more = (later_among x n xs among, All-cons (λ y. n ≤ y) x xs (omega (arith, leb-false x n more)) all)

pub least_is : (xs : List ℕ) → IsLeastOf xs (least xs)
least_is [] = refl
least_is (x ∷ xs) = least_step x xs (least xs) (least_is xs)
