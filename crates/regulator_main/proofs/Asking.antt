-- The handles of a list, one after another.
use Rattle.std.proofs.Common.{◌≡◌, ℕ, zero, suc, ◌<◌, ◌≤◌, Bool, true, false, cond, ltb, List, [], ◌∷◌, Option, Some, None, refl, sym, ap, ◌∙◌, arith, map, length}
use Rattle.std.specs.Prelude.{find, position, slice_get, slice_set, option_and_then, if◌then◌else◌}
use Rattle.std.specs.List.{position_or_len}
use Rattle.std.proofs.lemmas.Bool.Decides.{nat_tests}
use Rattle.std.proofs.lemmas.Option.{slice_get_past}
use Rattle.std.proofs.lemmas.List.Folds.{find_at}
use Rattle.std.proofs.lemmas.List.Quantifiers.{position-Some}
use Rattle.plain_board.specs.Answer.{with_request}
use Rattle.plain_board.specs.Handles.{Entry, is_own}

-- the place of an element is within its list
pub place_within : {X : Type 0} (p : X → Bool) (xs : List X) (i : ℕ) → position p xs ≡ Some i → i < length xs
place_within p [] i is = absurd cc
place_within p (x ∷ xs) i is = (position-Some p (x ∷ xs) i x is).0

found_by : {X : Type 0} (xs : List X) (n : ℕ) (t : Bool) (q : Option ℕ) → ltb n (length xs) ≡ t → cond t (Some n) None ≡ q → slice_get xs n ≡ option_and_then (slice_get xs) q
found_by xs n true q within is = ap (option_and_then (slice_get xs)) is
found_by xs n false q past is = slice_get_past xs n (grind (arith, nat_tests)) ∙ ap (option_and_then (slice_get xs)) is

-- what is found is at its place
pub find-position : {X : Type 0} (p : X → Bool) (xs : List X) → find p xs ≡ option_and_then (slice_get xs) (position p xs)
find-position p xs = find_at p xs ∙ found_by xs (position_or_len p xs) (ltb (position_or_len p xs) (length xs)) (position p xs) refl refl

-- a list of which the first so many are changed
abbrev pub changed_first : {X : Type 0} → (X → X) → ℕ → List X → List X
changed_first f zero xs = xs
changed_first f (suc n) [] = []
changed_first f (suc n) (x ∷ xs) = f x ∷ changed_first f n xs

pub length-changed_first : {X : Type 0} (f : X → X) (n : ℕ) (xs : List X) → length (changed_first f n xs) ≡ length xs
length-changed_first f zero xs = refl
length-changed_first f (suc n) [] = refl
length-changed_first f (suc n) (x ∷ xs) = ap suc (length-changed_first f n xs)

-- the next one isn't yet
pub next_unchanged : {X : Type 0} (f : X → X) (n : ℕ) (xs : List X) → slice_get (changed_first f n xs) n ≡ slice_get xs n
next_unchanged f zero xs = refl
next_unchanged f (suc n) [] = refl
next_unchanged f (suc n) (x ∷ xs) = next_unchanged f n xs

-- one more
pub one_more_changed : {X : Type 0} (f : X → X) (n : ℕ) (xs : List X) (x : X) → slice_get xs n ≡ Some x → slice_set (changed_first f n xs) n (f x) ≡ changed_first f (suc n) xs
one_more_changed f zero [] x here = absurd cc
one_more_changed f zero (y ∷ ys) x here = let same : y ≡ x = cc in ap (λ z. f z ∷ ys) (sym same)
one_more_changed f (suc n) [] x here = absurd cc
one_more_changed f (suc n) (y ∷ ys) x here = ap (λ rest. f y ∷ rest) (one_more_changed f n ys x here)

-- one more that stays as it is
pub one_more_same : {X : Type 0} (f : X → X) (n : ℕ) (xs : List X) (x : X) → slice_get xs n ≡ Some x → f x ≡ x → changed_first f n xs ≡ changed_first f (suc n) xs
one_more_same f zero [] x here same = absurd cc
one_more_same f zero (y ∷ ys) x here same = let is : y ≡ x = cc in ap (λ z. z ∷ ys) (is ∙ sym same ∙ ap f (sym is))
one_more_same f (suc n) [] x here same = absurd cc
one_more_same f (suc n) (y ∷ ys) x here same = ap (λ rest. f y ∷ rest) (one_more_same f n ys x here same)

-- all of them
pub all_changed : {X : Type 0} (f : X → X) (n : ℕ) (xs : List X) → length xs ≤ n → changed_first f n xs ≡ map f xs
all_changed f zero [] past = refl
all_changed f zero (x ∷ xs) past = absurd (omega (arith, past))
all_changed f (suc n) [] past = refl
all_changed f (suc n) (x ∷ xs) past = ap (λ rest. f x ∷ rest) (all_changed f n xs (omega (arith, past)))

-- a handle that asks anew, if it is the worker's of this name
abbrev pub asked_anew : ℕ → List ℕ → Option (ℕ × ℕ) → Entry → Entry
asked_anew worker name request entry = if is_own worker name entry then (entry.0, with_request request entry.1) else entry
