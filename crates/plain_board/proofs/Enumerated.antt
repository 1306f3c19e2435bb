-- A list with its places, one element at a time.
use Rattle.std.proofs.Common.{◌≡◌, ℕ, ◌+◌, ◌<◌, List, [], ◌∷◌, ◌++◌, length, get_or, take, sym, ap, ◌∙◌, arith, length-take-le, flat_map}
use Rattle.std.specs.List.{enumerate_from}
use Rattle.std.proofs.lemmas.List.{take_more, flat_map_more}

-- the last element has the place behind all others
enumerate_from-push : {X : Type 0} (n : ℕ) (xs : List X) (x : X) → enumerate_from n (xs ++ x ∷ []) ≡ enumerate_from n xs ++ (n + length xs, x) ∷ []
enumerate_from-push n [] x = ap (λ k. (k, x) ∷ []) (omega arith)
enumerate_from-push n (y ∷ ys) x =
    ap (λ rest. (n, y) ∷ rest) (enumerate_from-push (n + 1) ys x ∙ ap (λ k. enumerate_from (n + 1) ys ++ (k, x) ∷ []) (omega arith))

-- what a list with its places makes grows by what the next element makes
pub flat_map-enumerated : {X A : Type 0} (f : ℕ × X → List A) (xs : List X) (i : ℕ) (x : X) → i < length xs → x ≡ get_or xs i x
    → flat_map f (enumerate_from 0 (take (i + 1) xs)) ≡ flat_map f (enumerate_from 0 (take i xs)) ++ f (i, x)
flat_map-enumerated f xs i x within is =
    ap (λ ys. flat_map f (enumerate_from 0 ys)) (take_more xs i x within ∙ ap (λ y. take i xs ++ y ∷ []) (sym is))
    ∙ ap (flat_map f) (enumerate_from-push 0 (take i xs) x ∙ ap (λ k. enumerate_from 0 (take i xs) ++ (k, x) ∷ []) (omega (arith, length-take-le i xs (omega arith))))
    ∙ sym (flat_map_more f [] (enumerate_from 0 (take i xs)) (i, x))
