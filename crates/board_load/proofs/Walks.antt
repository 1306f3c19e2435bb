-- Walks over lists, place by place.
use Rattle.std.proofs.Common.{◌≡◌, ℕ, ◌+◌, ◌<◌, ◌≤◌, List, [], ◌∷◌, ◌++◌, length, map, take, drop, set, get_or, sym, append_assoc, append-nil, ap, ◌∙◌, arith, take_all}
use Rattle.std.specs.List.{enumerate_from}
use Rattle.std.proofs.lemmas.List.{map-append, take_more, length-map, length-take-le, drop_more, drop_all, set_at, get_or_at}
use Rattle.std.proofs.lemmas.List.{length-append, length-drop}
use Rattle.std.proofs.lemmas.List.FromFn.{length-enumerate_from, get_or-enumerate_from}

-- the first so many of a list, seen in another way, and one more
pub map_more : {X Y : Type 0} (f : X → Y) (xs : List X) (k : ℕ) (x : X) → k < length xs → x ≡ get_or xs k x → map f (take k xs) ++ f x ∷ [] ≡ map f (take (k + 1) xs)
map_more f xs k x inside is =
    ap (λ y. map f (take k xs) ++ f y ∷ []) is ∙ sym (map-append f (take k xs) (get_or xs k x ∷ [])) ∙ ap (map f) (sym (take_more xs k x inside))

-- what stands at a place of a list with its places
pub place_at : {X : Type 0} (xs : List X) (k : ℕ) (x : X) → k < length xs → x ≡ get_or xs k x → (k, x) ≡ get_or (enumerate_from 0 xs) k (k, x)
place_at xs k x inside is =
    let number : 0 + k ≡ k = omega arith in
    ap (λ y. (k, y)) is ∙ ap (λ n. (n, get_or xs k x)) (sym number) ∙ sym (get_or-enumerate_from 0 xs k (k, x) inside)

-- a list of which the first so many are written anew, by what stood there and where
module _ {X : Type 0} (g : ℕ × X → X) (xs : List X) where
  abbrev pub IsWrittenTo : ℕ → List X → Type 0
  IsWrittenTo k now = now ≡ map g (take k (enumerate_from 0 xs)) ++ drop k xs

  written_count : (k : ℕ) → k ≤ length xs → length (map g (take k (enumerate_from 0 xs))) ≡ k
  written_count k most =
      let count : length (enumerate_from 0 xs) ≡ length xs = length-enumerate_from 0 xs in
      length-map (take k (enumerate_from 0 xs)) g ∙ length-take-le k (enumerate_from 0 xs) (omega arith)

  pub written_size : (k : ℕ) (now : List X) → k ≤ length xs → IsWrittenTo k now → length now ≡ length xs
  written_size k now most is =
      let parts = ap length is ∙ length-append (map g (take k (enumerate_from 0 xs))) (drop k xs) in
      let rest = length-drop k xs in
      omega (arith, parts, rest, written_count k most)

  -- the next is as it was
  pub unwritten : (k : ℕ) (now : List X) (d : X) → k < length xs → IsWrittenTo k now → get_or now k d ≡ get_or xs k d
  unwritten k now d within is =
      ap (λ ys. get_or ys k d) (is ∙ ap (λ ys. map g (take k (enumerate_from 0 xs)) ++ ys) (drop_more xs k d within))
      ∙ get_or_at (map g (take k (enumerate_from 0 xs))) (get_or xs k d) (drop (k + 1) xs) d k (written_count k (omega arith))

  -- one more is written
  pub written_more : (k : ℕ) (now : List X) (x : X) → k < length xs → IsWrittenTo k now → x ≡ get_or xs k x → IsWrittenTo (k + 1) (set now k (g (k, x)))
  written_more k now x within is item =
      let old = map g (take k (enumerate_from 0 xs)) in
      let count : length (enumerate_from 0 xs) ≡ length xs = length-enumerate_from 0 xs in
      ap (λ ys. set ys k (g (k, x))) (is ∙ ap (λ ys. old ++ ys) (drop_more xs k x within))
      ∙ set_at old (get_or xs k x) (drop (k + 1) xs) (g (k, x)) k (written_count k (omega arith))
      ∙ sym (append_assoc old (g (k, x) ∷ []) (drop (k + 1) xs))
      ∙ ap (λ ys. ys ++ drop (k + 1) xs) (map_more g (enumerate_from 0 xs) k (k, x) (omega arith) (place_at xs k x within item))

  -- all are written
  pub written_all : (k : ℕ) (now : List X) → length xs ≤ k → IsWrittenTo k now → now ≡ map g (enumerate_from 0 xs)
  written_all k now past is =
      let count : length (enumerate_from 0 xs) ≡ length xs = length-enumerate_from 0 xs in
      is ∙ ap (λ ys. map g (take k (enumerate_from 0 xs)) ++ ys) (drop_all k xs past)
      ∙ append-nil (map g (take k (enumerate_from 0 xs))) ∙ ap (map g) (take_all k (enumerate_from 0 xs) (omega arith))
