-- Walks over lists, place by place.
use Rattle.std.proofs.Common.{◌≡◌, ℕ, zero, suc, ◌+◌, ◌<◌, ◌≤◌, Bool, true, false, List, [], ◌∷◌, ◌++◌, length, map, take, drop, get_or, slice_index_or, Option, Some, None, refl, sym, ap, ◌∙◌, arith}
use Rattle.std.specs.Prelude.{find}
use Rattle.std.specs.List.{enumerate_from, range_with_len}
use Rattle.std.specs.Option.{option_or}
use Rattle.std.proofs.Math.Seq.{drop-cons, take-suc}
use Rattle.std.proofs.lemmas.List.{map-append, length-map}
use Rattle.std.proofs.lemmas.List.FromFn.{length-enumerate_from, get_or-enumerate_from}
use Rattle.dts_nodes.specs.Firsts.{first_of}

-- what is left of a list from a place on
pub left_at : {E : Type 0} (es : List E) (k : ℕ) (e : E) → k < length es → e ≡ slice_index_or es k e → drop k es ≡ e ∷ drop (k + 1) es
left_at es k e inside is =
    let next : suc k ≡ k + 1 = omega arith in
    drop-cons es k e inside ∙ ap (λ x. x ∷ drop (suc k) es) (sym is) ∙ ap (λ n. e ∷ drop n es) next

pub none_left : {E : Type 0} (es : List E) (k : ℕ) → length es ≤ k → drop k es ≡ []
none_left [] zero past = refl
none_left [] (suc k) past = refl
none_left (e ∷ es) zero past = absurd (omega (arith, past))
none_left (e ∷ es) (suc k) past = none_left es k (omega (arith, past))

pub get_or-map : {X Y : Type 0} (f : X → Y) (xs : List X) (k : ℕ) (d : X) → get_or (map f xs) k (f d) ≡ f (get_or xs k d)
get_or-map f [] k d = refl
get_or-map f (x ∷ xs) zero d = refl
get_or-map f (x ∷ xs) (suc k) d = get_or-map f xs k d

-- what stands at a place of a list that is seen in another way, with its places
pub there_at : {X Y : Type 0} (f : X → Y) (xs : List X) (k : ℕ) (x : X) → k < length xs → x ≡ slice_index_or xs k x
    → (k < length (enumerate_from 0 (map f xs))) × ((k, f x) ≡ slice_index_or (enumerate_from 0 (map f xs)) k (k, f x))
there_at f xs k x inside is =
    let count : length (map f xs) ≡ length xs = length-map xs f in
    let within : k < length (map f xs) = omega (arith, inside, count) in
    let counted : length (enumerate_from 0 (map f xs)) ≡ length (map f xs) = length-enumerate_from 0 (map f xs) in
    let number : 0 + k ≡ k = omega arith in (
      omega (arith, within, counted),
      ap (λ y. (k, y)) (ap f is ∙ sym (get_or-map f xs k x)) ∙ ap (λ n. (n, get_or (map f xs) k (f x))) (sym number) ∙ sym (get_or-enumerate_from 0 (map f xs) k (k, f x) within),
    )

pub place_at : {X Y : Type 0} (f : X → Y) (xs : List X) (k : ℕ) (x : X) → k < length xs → x ≡ slice_index_or xs k x
    → drop k (enumerate_from 0 (map f xs)) ≡ (k, f x) ∷ drop (k + 1) (enumerate_from 0 (map f xs))
place_at f xs k x inside is = let there = there_at f xs k x inside is in left_at (enumerate_from 0 (map f xs)) k (k, f x) there.0 there.1

pub place_taken : {X Y : Type 0} (f : X → Y) (xs : List X) (k : ℕ) (x : X) → k < length xs → x ≡ slice_index_or xs k x
    → take (k + 1) (enumerate_from 0 (map f xs)) ≡ take k (enumerate_from 0 (map f xs)) ++ (k, f x) ∷ []
place_taken f xs k x inside is =
    let there = there_at f xs k x inside is in
    let es = enumerate_from 0 (map f xs) in
    let next : k + 1 ≡ suc k = omega arith in
    ap (λ n. take n es) next ∙ take-suc es k (k, f x) there.0 ∙ ap (λ e. take k es ++ e ∷ []) (sym there.1)

pub places_end : {X Y : Type 0} (f : X → Y) (xs : List X) (k : ℕ) → length xs ≤ k → length (enumerate_from 0 (map f xs)) ≤ k
places_end f xs k past = let count = length-map xs f in let counted = length-enumerate_from 0 (map f xs) in omega (arith, past, count, counted)

module _ {E : Type 0} (test : E → Bool) (es : List E) where
  -- none before the place passes
  abbrev pub NoneBefore : ℕ → Type 0
  NoneBefore k = find test es ≡ find test (drop k es)

  pub none_more : (k : ℕ) (e : E) → drop k es ≡ e ∷ drop (k + 1) es → test e ≡ false → NoneBefore k → NoneBefore (k + 1)
  none_more k e is fails before =
      let here : find test (e ∷ drop (k + 1) es) ≡ find test (drop (k + 1) es) = rw fails refl in
      before ∙ ap (find test) is ∙ here

  pub one_here : (k : ℕ) (e : E) → drop k es ≡ e ∷ drop (k + 1) es → test e ≡ true → NoneBefore k → find test es ≡ Some e
  one_here k e is passes before =
      let here : find test (e ∷ drop (k + 1) es) ≡ Some e = rw passes refl in
      before ∙ ap (find test) is ∙ here

  pub none_at_all : (k : ℕ) → length es ≤ k → NoneBefore k → find test es ≡ None
  none_at_all k past before = before ∙ ap (find test) (none_left es k past)

module _ {E A : Type 0} (tells : E → Option A) (es : List E) where
  -- nothing is told before the place
  abbrev pub NothingBefore : ℕ → Type 0
  NothingBefore k = first_of (map tells es) ≡ first_of (map tells (drop k es))

  pub nothing_more : (k : ℕ) (e : E) → drop k es ≡ e ∷ drop (k + 1) es → tells e ≡ None → NothingBefore k → NothingBefore (k + 1)
  nothing_more k e is none before =
      before ∙ ap (λ rest. first_of (map tells rest)) is ∙ ap (λ told. option_or told (first_of (map tells (drop (k + 1) es)))) none

  pub told_here : (k : ℕ) (e : E) (a : A) → drop k es ≡ e ∷ drop (k + 1) es → tells e ≡ Some a → NothingBefore k → first_of (map tells es) ≡ Some a
  told_here k e a is told before =
      before ∙ ap (λ rest. first_of (map tells rest)) is ∙ ap (λ told. option_or told (first_of (map tells (drop (k + 1) es)))) told

  pub nothing_at_all : (k : ℕ) → length es ≤ k → NothingBefore k → first_of (map tells es) ≡ None
  nothing_at_all k past before = before ∙ ap (λ rest. first_of (map tells rest)) (none_left es k past)

-- the first so many of a list, seen in another way, and one more
pub map_more : {X Y : Type 0} (f : X → Y) (xs : List X) (k : ℕ) (x : X) → k < length xs → x ≡ slice_index_or xs k x → map f (take k xs) ++ f x ∷ [] ≡ map f (take (k + 1) xs)
map_more f xs k x inside is =
    let next : suc k ≡ k + 1 = omega arith in
    ap (λ y. map f (take k xs) ++ f y ∷ []) is ∙ sym (map-append f (take k xs) (get_or xs k x ∷ [])) ∙ ap (map f) (sym (take-suc xs k x inside)) ∙ ap (λ n. map f (take n xs)) next

pub take_all : {X : Type 0} (xs : List X) (k : ℕ) → length xs ≤ k → take k xs ≡ xs
take_all [] zero past = refl
take_all [] (suc k) past = refl
take_all (x ∷ xs) zero past = absurd (omega (arith, past))
take_all (x ∷ xs) (suc k) past = ap (λ rest. x ∷ rest) (take_all xs k (omega (arith, past)))

pub map_all : {X Y : Type 0} (f : X → Y) (xs : List X) (k : ℕ) (ys : List Y) → length xs ≤ k → ys ≡ map f (take k xs) → ys ≡ map f xs
map_all f xs k ys past is = is ∙ ap (map f) (take_all xs k past)

pub map_map : {X Y Z : Type 0} (g : Y → Z) (f : X → Y) (xs : List X) → map g (map f xs) ≡ map (λ x. g (f x)) xs
map_map g f [] = refl
map_map g f (x ∷ xs) = ap (λ rest. g (f x) ∷ rest) (map_map g f xs)

-- one more, told by its default
pub map_one_more : {X Y : Type 0} (f : X → Y) (xs : List X) (k : ℕ) (d : X) (y : Y) → k < length xs → y ≡ f (get_or xs k d) → map f (take (k + 1) xs) ≡ map f (take k xs) ++ y ∷ []
map_one_more f xs k d y inside is =
    let next : k + 1 ≡ suc k = omega arith in
    ap (λ n. map f (take n xs)) next ∙ ap (map f) (take-suc xs k d inside) ∙ map-append f (take k xs) (get_or xs k d ∷ []) ∙ ap (λ z. map f (take k xs) ++ z ∷ []) (sym is)

-- the same for a list with its places
pub numbered_more : {X Y : Type 0} (g : ℕ × X → Y) (xs : List X) (k : ℕ) (x : X) → k < length xs → x ≡ slice_index_or xs k x
    → map g (take k (enumerate_from 0 xs)) ++ g (k, x) ∷ [] ≡ map g (take (k + 1) (enumerate_from 0 xs))
numbered_more g xs k x inside is =
    let es = enumerate_from 0 xs in
    let counted : length es ≡ length xs = length-enumerate_from 0 xs in
    let among : k < length es = omega (arith, inside, counted) in
    let number : 0 + k ≡ k = omega arith in
    let there : (k, x) ≡ slice_index_or es k (k, x) = ap (λ y. (k, y)) is ∙ ap (λ n. (n, get_or xs k x)) (sym number) ∙ sym (get_or-enumerate_from 0 xs k (k, x) inside) in
    map_more g es k (k, x) among there

pub numbered_all : {X Y : Type 0} (g : ℕ × X → Y) (xs : List X) (k : ℕ) (ys : List Y) → length xs ≤ k → ys ≡ map g (take k (enumerate_from 0 xs)) → ys ≡ map g (enumerate_from 0 xs)
numbered_all g xs k ys past is = let counted : length (enumerate_from 0 xs) ≡ length xs = length-enumerate_from 0 xs in map_all g (enumerate_from 0 xs) k ys (omega (arith, past, counted)) is

pub enumerate-map : {X Y : Type 0} (f : X → Y) (n : ℕ) (xs : List X) → enumerate_from n (map f xs) ≡ map (λ p. (p.0, f p.1)) (enumerate_from n xs)
enumerate-map f n [] = refl
enumerate-map f n (x ∷ xs) = ap (λ rest. (n, f x) ∷ rest) (enumerate-map f (n + 1) xs)

-- what is left of a list, told by a default
pub left_by : {E : Type 0} (es : List E) (k : ℕ) (d : E) → k < length es → drop k es ≡ get_or es k d ∷ drop (k + 1) es
left_by es k d inside = let next : suc k ≡ k + 1 = omega arith in drop-cons es k d inside ∙ ap (λ n. get_or es k d ∷ drop n es) next

range_more : (a n : ℕ) → range_with_len a (suc n) ≡ range_with_len a n ++ (a + n) ∷ []
range_more a zero = let same : a ≡ a + 0 = omega arith in ap (λ x. x ∷ []) same
range_more a (suc n) = let same : a + 1 + n ≡ a + suc n = omega arith in ap (λ rest. a ∷ rest) (range_more (a + 1) n ∙ ap (λ x. range_with_len (a + 1) n ++ x ∷ []) same)

-- the numbers below a count, and one more
pub numbers_more : (n : ℕ) → range_with_len 0 (n + 1) ≡ range_with_len 0 n ++ n ∷ []
numbers_more n = let next : n + 1 ≡ suc n = omega arith in let same : 0 + n ≡ n = omega arith in ap (range_with_len 0) next ∙ range_more 0 n ∙ ap (λ x. range_with_len 0 n ++ x ∷ []) same
