-- What holds of lists that are mapped, numbered, joined or searched.
use Rattle.std.proofs.Common.{◌≡◌, ◌≢◌, ℕ, zero, suc, ◌+◌, ◌-◌, ◌<◌, ◌≤◌, Bool, true, false, cond, List, [], ◌∷◌, ◌++◌, Option, None, Some, refl, ap, subst, ◌∙◌, arith, map, filter, find, filter_map, flat_map, length, slice_get, get_or, min, fold, nat_eq, IfSome, All, AllPairs, inl, inr}
use Rattle.std.specs.List.{enumerate_from, range_with_len, list_any, cons_option}
use Rattle.std.specs.Option.{option_map, option_or}
use Rattle.std.proofs.lemmas.Bool.{or_parts, or_cases, cases_lt, eq-eqb, or_left, or_right}
use Rattle.std.proofs.lemmas.List.{length-map, get_or-map}
use Rattle.std.proofs.lemmas.Option.{slice_get_within, get_or_from_slice_get}
use Rattle.std.proofs.lemmas.List.Elements.{All-nil, All-cons, All-head, All-tail, All-append}
use Rattle.std.proofs.lemmas.List.FromFn.{length-range_with_len, get_or-range_with_len}
use Rattle.board_graph.specs.Order.{is_taken}
use Rattle.dts_nodes.specs.Firsts.{first_of, when}

-- a value that may be there, of which a fact is shown
pub some_from : {X : Type 0} (o : Option X) (P : X → Type 0) → ((x : X) → o ≡ Some x → P x) → IfSome o P
some_from None P holds = tt
some_from (Some x) P holds = holds x refl

pub none-option_map : {X Y : Type 0} (f : X → Y) (o : Option X) → option_map f o ≡ None → o ≡ None
none-option_map f None none = refl
none-option_map f (Some x) none = absurd (cc)

-- of two that may be told none is
pub none-option_or : {X : Type 0} (o other : Option X) → option_or o other ≡ None → (o ≡ None) × (other ≡ None)
none-option_or None other none = (refl, none)
none-option_or (Some x) other none = absurd (cc)

pub none-when : {X : Type 0} (holds : Bool) (this : X) → when holds this ≡ None → holds ≡ false
none-when true this none = absurd (cc)
none-when false this none = refl

pub none-first_of : {X : Type 0} (told : List (Option X)) → first_of told ≡ None → All (λ o. o ≡ None) told
none-first_of [] none = All-nil (λ o. o ≡ None)
none-first_of (o ∷ told) none =
    let both = none-option_or o (first_of told) none in
    All-cons (λ o. o ≡ None) o told both.0 (none-first_of told both.1)

-- what isn't found
pub none-find : {X : Type 0} (test : X → Bool) (xs : List X) → find test xs ≡ None → All (λ x. test x ≡ false) xs
none-find test [] none = All-nil (λ x. test x ≡ false)
none-find test (x ∷ xs) none =
    (elim (test x) as (λ b. test x ≡ b → cond b (Some x) (find test xs) ≡ None → All (λ y. test y ≡ false) (x ∷ xs)) [
      | true ↦ λ _ never. absurd (cc)
      | false ↦ λ fails later. All-cons (λ y. test y ≡ false) x xs fails (none-find test xs later)
    ]) refl none

pub none-list_any : {X : Type 0} (test : X → Bool) (xs : List X) → list_any test xs ≡ false → All (λ x. test x ≡ false) xs
none-list_any test [] none = All-nil (λ x. test x ≡ false)
none-list_any test (x ∷ xs) none =
    let both = or_parts (test x) (list_any test xs) none in
    All-cons (λ y. test y ≡ false) x xs both.0 (none-list_any test xs both.1)

-- what passes is kept
pub some_kept : {X Y : Type 0} (f : X → Y) (test : X → Bool) (xs : List X) → list_any test xs ≡ true → map f (filter test xs) ≢ []
some_kept f test [] some = absurd (cc)
some_kept f test (x ∷ xs) some =
    (elim (test x) as (λ b. test x ≡ b → map f (cond b (x ∷ filter test xs) (filter test xs)) ≢ []) [
      | true ↦ λ _ none. absurd (cc)
      | false ↦ λ fails. some_kept f test xs (cc)
    ]) refl

-- the fact at a place
pub all_at : {X : Type 0} (P : X → Type 0) (xs : List X) (k : ℕ) (x : X) → All P xs → slice_get xs k ≡ Some x → P x
all_at P xs k x all is = subst P (get_or_from_slice_get xs k x x is) (all k x (slice_get_within xs k x is))

all_left : {X : Type 0} (P : X → Type 0) (xs ys : List X) → All P (xs ++ ys) → All P xs
all_left P [] ys all = All-nil P
all_left P (x ∷ xs) ys all = All-cons P x xs (All-head P x (xs ++ ys) all) (all_left P xs ys (All-tail P x (xs ++ ys) all))

all_right : {X : Type 0} (P : X → Type 0) (xs ys : List X) → All P (xs ++ ys) → All P ys
all_right P [] ys all = all
all_right P (x ∷ xs) ys all = all_right P xs ys (All-tail P x (xs ++ ys) all)

-- what holds of each two images holds so of each two elements
pub pairs_from_map : {X Y : Type 0} (R : Y → Y → Type 0) (f : X → Y) (xs : List X) → AllPairs R (map f xs) → AllPairs (λ a b. R (f a) (f b)) xs
pairs_from_map R f xs all i j d before within =
    let first : get_or (map f xs) i (f d) ≡ f (get_or xs i d) = get_or-map f xs i d (f d) (omega arith) in
    let second : get_or (map f xs) j (f d) ≡ f (get_or xs j d) = get_or-map f xs j d (f d) within in
    let there : j < length (map f xs) = omega (arith, length-map xs f) in
    subst (λ y. R (f (get_or xs i d)) y) second (subst (λ x. R x (get_or (map f xs) j (f d))) first (all i j (f d) before there))

-- what holds of each image holds so of each element
pub all_from_map : {X Y : Type 0} (P : Y → Type 0) (f : X → Y) (xs : List X) → All P (map f xs) → All (λ x. P (f x)) xs
all_from_map P f [] all = All-nil (λ x. P (f x))
all_from_map P f (x ∷ xs) all = All-cons (λ x. P (f x)) x xs (All-head P (f x) (map f xs) all) (all_from_map P f xs (All-tail P (f x) (map f xs) all))

pub all_from_flat_map : {X Y : Type 0} (P : Y → Type 0) (f : X → List Y) (xs : List X) → All P (flat_map f xs) → All (λ x. All P (f x)) xs
all_from_flat_map P f [] all = All-nil (λ x. All P (f x))
all_from_flat_map P f (x ∷ xs) all =
    All-cons (λ x. All P (f x)) x xs (all_left P (f x) (flat_map f xs) all) (all_from_flat_map P f xs (all_right P (f x) (flat_map f xs) all))

pub all-map : {X Y : Type 0} (P : Y → Type 0) (f : X → Y) (xs : List X) → ((x : X) → P (f x)) → All P (map f xs)
all-map P f [] each = All-nil P
all-map P f (x ∷ xs) each = All-cons P (f x) (map f xs) (each x) (all-map P f xs each)

pub all-flat_map : {X Y : Type 0} (P : Y → Type 0) (f : X → List Y) (xs : List X) → ((x : X) → All P (f x)) → All P (flat_map f xs)
all-flat_map P f [] each = All-nil P
all-flat_map P f (x ∷ xs) each = All-append P (f x) (flat_map f xs) (each x) (all-flat_map P f xs each)

-- one that may be there, before others
all_behind : {X : Type 0} (P : X → Type 0) (o : Option X) (xs : List X) → IfSome o P → All P xs → All P (cons_option o xs)
all_behind P None xs first all = all
all_behind P (Some x) xs first all = All-cons P x xs first all

pub all-filter_map : {X Y : Type 0} (P : Y → Type 0) (f : X → Option Y) (xs : List X) → ((x : X) → IfSome (f x) P) → All P (filter_map f xs)
all-filter_map P f [] each = All-nil P
all-filter_map P f (x ∷ xs) each = all_behind P (f x) (filter_map f xs) (each x) (all-filter_map P f xs each)

-- the fact of a number in a row
pub all_from_range : (P : ℕ → Type 0) (first count k : ℕ) → All P (range_with_len first count) → first ≤ k → k < first + count → P k
all_from_range P first count k all from below =
    let place : k - first < count = omega arith in
    let within : k - first < length (range_with_len first count) = omega (arith, length-range_with_len first count) in
    let number : first + (k - first) ≡ k = omega arith in
    subst P (get_or-range_with_len first count (k - first) 0 place ∙ number) (all (k - first) 0 within)

-- elements with their numbers, from n on
from_numbers : {X : Type 0} (P : ℕ → X → Type 0) (xs : List X) (n k : ℕ) (x : X) → All (λ p. P p.0 p.1) (enumerate_from n xs) → slice_get xs k ≡ Some x → P (n + k) x
from_numbers P [] n k x all is = absurd (cc)
from_numbers P (first ∷ xs) n zero x all is =
    let number : n ≡ n + 0 = omega arith in
    let same : first ≡ x = cc in
    subst (λ m. P m x) number (subst (P n) same (All-head (λ p. P p.0 p.1) (n, first) (enumerate_from (n + 1) xs) all))
from_numbers P (first ∷ xs) n (suc k) x all is =
    let number : n + 1 + k ≡ n + suc k = omega arith in
    subst (λ m. P m x) number (from_numbers P xs (n + 1) k x (All-tail (λ p. P p.0 p.1) (n, first) (enumerate_from (n + 1) xs) all) is)

to_numbers : {X : Type 0} (P : ℕ → X → Type 0) (xs : List X) (n : ℕ) → ((k : ℕ) (x : X) → slice_get xs k ≡ Some x → P (n + k) x) → All (λ p. P p.0 p.1) (enumerate_from n xs)
to_numbers P [] n each = All-nil (λ p. P p.0 p.1)
to_numbers P (first ∷ xs) n each =
    let number : n + 0 ≡ n = omega arith in
    All-cons (λ p. P p.0 p.1) (n, first) (enumerate_from (n + 1) xs) (subst (λ m. P m first) number (each 0 first refl))
    (to_numbers P xs (n + 1) (λ k x is. let number : n + suc k ≡ n + 1 + k = omega arith in subst (λ m. P m x) number (each (suc k) x is)))

-- what holds of the elements with their numbers
pub from_numbered : {X : Type 0} (P : ℕ → X → Type 0) (xs : List X) (k : ℕ) (x : X) → All (λ p. P p.0 p.1) (enumerate_from 0 xs) → slice_get xs k ≡ Some x → P k x
from_numbered P xs k x all is = let number : 0 + k ≡ k = omega arith in subst (λ m. P m x) number (from_numbers P xs 0 k x all is)

pub to_numbered : {X : Type 0} (P : ℕ → X → Type 0) (xs : List X) → ((k : ℕ) (x : X) → slice_get xs k ≡ Some x → P k x) → All (λ p. P p.0 p.1) (enumerate_from 0 xs)
to_numbered P xs each = to_numbers P xs 0 (λ k x is. let number : k ≡ 0 + k = omega arith in subst (λ m. P m x) number (each k x is))

pub map-numbered : {X Y : Type 0} (f : X → Y) (n : ℕ) (xs : List X) → map (λ p. f p.1) (enumerate_from n xs) ≡ map f xs
map-numbered f n [] = refl
map-numbered f n (x ∷ xs) = ap (λ ys. f x ∷ ys) (map-numbered f (n + 1) xs)

numbered_at : {X Y : Type 0} (f : ℕ → X → Y) (xs : List X) (n k : ℕ) → slice_get (map (λ p. f p.0 p.1) (enumerate_from n xs)) k ≡ option_map (f (n + k)) (slice_get xs k)
numbered_at f [] n k = refl
numbered_at f (x ∷ xs) n zero = let number : n ≡ n + 0 = omega arith in ap (λ m. Some (f m x)) number
numbered_at f (x ∷ xs) n (suc k) =
    let number : n + 1 + k ≡ n + suc k = omega arith in
    numbered_at f xs (n + 1) k ∙ ap (λ m. option_map (f m) (slice_get xs k)) number

pub slice_get-numbered : {X Y : Type 0} (f : ℕ → X → Y) (xs : List X) (k : ℕ) → slice_get (map (λ p. f p.0 p.1) (enumerate_from 0 xs)) k ≡ option_map (f k) (slice_get xs k)
slice_get-numbered f xs k = let number : 0 + k ≡ k = omega arith in numbered_at f xs 0 k ∙ ap (λ m. option_map (f m) (slice_get xs k)) number

-- the least of a number and others
pub fold-min-le : (n : ℕ) (ns : List ℕ) → fold min n ns ≤ n
fold-min-le n [] = omega arith
fold-min-le n (m ∷ ns) = omega (arith, fold-min-le (min n m) ns)

-- one that is taken is so with one more
with_second : (n m : ℕ) (ns : List ℕ) (k : ℕ) → is_taken (n ∷ ns) k ≡ true → is_taken (n ∷ m ∷ ns) k ≡ true
with_second n m ns k taken = elim (or_cases (nat_eq k n) (is_taken ns k) taken) [
  | inl here ↦ or_left _ _ here
  | inr there ↦ or_right _ _ (or_right _ _ there)
]

-- the least is the number or one of the others
pub fold-min-among : (n : ℕ) (ns : List ℕ) → is_taken (n ∷ ns) (fold min n ns) ≡ true
fold-min-among n [] = or_left _ _ (eq-eqb n n refl)
fold-min-among n (m ∷ ns) = least_among n m ns (fold min (min n m) ns) (fold-min-among (min n m) ns)
  where
    least_among : (n m : ℕ) (ns : List ℕ) (least : ℕ) → is_taken (min n m ∷ ns) least ≡ true → is_taken (n ∷ m ∷ ns) least ≡ true
    least_among n m ns least among = elim (cases_lt n m) [
      | inl less ↦ let same : min n m ≡ n = omega arith in with_second n m ns least (subst (λ x. is_taken (x ∷ ns) least ≡ true) same among)
      | inr more ↦ let same : min n m ≡ m = omega arith in or_right _ _ (subst (λ x. is_taken (x ∷ ns) least ≡ true) same among)
    ]
