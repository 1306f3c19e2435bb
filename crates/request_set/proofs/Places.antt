-- The rows of a list without one of them.
use Rattle.std.proofs.Common.{◌≡◌, ℕ, zero, suc, ◌+◌, ◌<◌, ◌≤◌, ◌≢◌, Bool, true, false, cond, not, ltb, List, [], ◌∷◌, ◌++◌, Some, None, refl, ap, ◌∙◌, arith, map, filter, length, get_or, add-one}
use Rattle.std.specs.Prelude.{position, remove, find, slice_get, slice_set}
use Rattle.std.specs.List.{position_or_len, prefix_len}
use Rattle.std.proofs.lemmas.Bool.{ltb-false}
use Rattle.std.proofs.lemmas.List.{length-map}
use Rattle.std.proofs.lemmas.List.Sums.{fails_before_first}
use Rattle.std.proofs.lemmas.List.Folds.{find_at}

-- an element is moved down by one place
moved_down : {X : Type 0} (xs : List X) (i : ℕ) (x : X) → suc i < length xs → x ≡ get_or xs (suc i) x → remove (slice_set xs i x) (suc i) ≡ remove xs i
moved_down [] i x within here = absurd (omega arith)
moved_down (y ∷ []) zero x within here = absurd (omega arith)
moved_down (y ∷ z ∷ zs) zero x within here = ap (λ w. w ∷ zs) here
moved_down (y ∷ ys) (suc i) x within here = ap (λ rest. y ∷ rest) (moved_down ys i x (omega (arith, within)) here)

pub remove-moved : {X : Type 0} (xs : List X) (i : ℕ) (x : X) → i + 1 < length xs → x ≡ get_or xs (i + 1) x → remove (slice_set xs i x) (i + 1) ≡ remove xs i
remove-moved xs i x within here = rw add-one (moved_down xs i x (omega (arith, within)) (rw add-one at here))

-- the last element is written over
put_at_end : {X : Type 0} (xs : List X) (i : ℕ) (x : X) → suc i ≡ length xs → slice_set xs i x ≡ remove xs i ++ x ∷ []
put_at_end [] i x last = absurd (omega (arith, last))
put_at_end (y ∷ []) zero x last = refl
put_at_end (y ∷ z ∷ zs) zero x last = absurd (omega (arith, last))
put_at_end (y ∷ ys) (suc i) x last = ap (λ rest. y ∷ rest) (put_at_end ys i x (omega (arith, last)))

pub set-last : {X : Type 0} (xs : List X) (i : ℕ) (x : X) → i + 1 ≡ length xs → slice_set xs i x ≡ remove xs i ++ x ∷ []
set-last xs i x last = put_at_end xs i x (omega (arith, last))

-- none passes
pub filter_none : {X : Type 0} (p : X → Bool) (xs : List X) → ((k : ℕ) (d : X) → k < length xs → p (get_or xs k d) ≡ false) → filter (λ x. not (p x)) xs ≡ xs
filter_none p [] none = refl
filter_none p (x ∷ xs) none =
    rw (none 0 x (omega arith)) (ap (λ rest. x ∷ rest) (filter_none p xs (λ k d within. none (suc k) d (omega (arith, within)))))

-- one passes
pub filter_one : {X : Type 0} (p : X → Bool) (xs : List X) (at : ℕ) → at < length xs → ((k : ℕ) (d : X) → k < length xs → k ≢ at → p (get_or xs k d) ≡ false)
    → ((d : X) → p (get_or xs at d) ≡ true) → filter (λ x. not (p x)) xs ≡ remove xs at
filter_one p [] at within others here = absurd (omega arith)
filter_one p (x ∷ xs) zero within others here = rw (here x) (filter_none p xs (λ k d inside. others (suc k) d (omega (arith, inside)) (λ same. absurd (omega (arith, same)))))
filter_one p (x ∷ xs) (suc at) within others here =
    rw (others 0 x (omega arith) (λ same. absurd (omega (arith, same))))
    (ap (λ rest. x ∷ rest) (filter_one p xs at (omega (arith, within)) (λ k d inside apart. others (suc k) d (omega (arith, inside)) (λ same. apart (omega (arith, same)))) here))

pub map-remove : {X Y : Type 0} (f : X → Y) (xs : List X) (at : ℕ) → map f (remove xs at) ≡ remove (map f xs) at
map-remove f [] zero = refl
map-remove f [] (suc at) = refl
map-remove f (x ∷ xs) zero = refl
map-remove f (x ∷ xs) (suc at) = ap (λ rest. f x ∷ rest) (map-remove f xs at)

map-filter_step : {X Y : Type 0} (f : X → Y) (x : X) (xs : List X) (ys : List Y) (t : Bool) → map f xs ≡ ys → map f (cond t (x ∷ xs) xs) ≡ cond t (f x ∷ ys) ys
map-filter_step f x xs ys true is = ap (λ rest. f x ∷ rest) is
map-filter_step f x xs ys false is = is

pub map-filter : {X Y : Type 0} (f : X → Y) (p : Y → Bool) (xs : List X) → map f (filter (λ x. p (f x)) xs) ≡ filter p (map f xs)
map-filter f p [] = refl
map-filter f p (x ∷ xs) = map-filter_step f x (filter (λ y. p (f y)) xs) (filter p (map f xs)) (p (f x)) (map-filter f p xs)

prefix_len-map : {X Y : Type 0} (f : X → Y) (p : Y → Bool) (xs : List X) → prefix_len p (map f xs) ≡ prefix_len (λ x. p (f x)) xs
prefix_len-map f p [] = refl
prefix_len-map f p (x ∷ xs) = ap (λ n. cond (p (f x)) (1 + n) 0) (prefix_len-map f p xs)

-- the place of what is mapped
pub position-map : {X Y : Type 0} (f : X → Y) (p : Y → Bool) (xs : List X) → position p (map f xs) ≡ position (λ x. p (f x)) xs
position-map f p xs = rw (prefix_len-map f (λ y. not (p y)) xs, length-map xs f) refl

past_end : (t : Bool) (n m : ℕ) → ltb n m ≡ t → cond t (Some n) None ≡ None → m ≤ n
past_end true n m is none = absurd cc
past_end false n m is none = ltb-false n m is

-- where none has a place none passes
pub none_placed : {X : Type 0} (p : X → Bool) (xs : List X) → position p xs ≡ None → (k : ℕ) (d : X) → k < length xs → p (get_or xs k d) ≡ false
none_placed p xs none k d within =
    let past = past_end (ltb (position_or_len p xs) (length xs)) (position_or_len p xs) (length xs) refl none in
    fails_before_first p xs k d (omega (arith, past))

pub find_none : {X : Type 0} (p : X → Bool) (xs : List X) → ((k : ℕ) (d : X) → k < length xs → p (get_or xs k d) ≡ false) → find p xs ≡ None
find_none p [] none = refl
find_none p (x ∷ xs) none = rw (none 0 x (omega arith)) (find_none p xs (λ k d within. none (suc k) d (omega (arith, within))))

same_place : (t : Bool) (n at : ℕ) → cond t (Some n) None ≡ Some at → n ≡ at
same_place true n at is = cc
same_place false n at is = absurd cc

-- what stands at the place is found
pub find_placed : {X : Type 0} (p : X → Bool) (xs : List X) (at : ℕ) → position p xs ≡ Some at → find p xs ≡ slice_get xs at
find_placed p xs at is = find_at p xs ∙ ap (slice_get xs) (same_place (ltb (position_or_len p xs) (length xs)) (position_or_len p xs) at is)
