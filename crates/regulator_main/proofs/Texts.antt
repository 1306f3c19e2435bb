-- Texts that grow item by item.
use Rattle.std.proofs.Common.{◌≡◌, ℕ, ◌+◌, ◌<◌, List, [], ◌∷◌, ◌++◌, sym, subst, ap, ◌∙◌, length, get_or, take, flat_map}
use Rattle.std.specs.Prelude.{All}
use Rattle.std.proofs.lemmas.List.{take_more, flat_map_more}

-- an item that was read has what all have
pub each_read : {X : Type 0} (P : X → Type 0) (xs : List X) (k : ℕ) (x : X) → All P xs → k < length xs → x ≡ get_or xs k x → P x
each_read P xs k x all within is = subst P (sym is) (all k x within)

-- a text that has one item more
pub printed_next : {X : Type 0} (print : X → List ℕ) (xs : List X) (i : ℕ) (x : X) (text text' : List ℕ) → i < length xs → x ≡ get_or xs i x → text ≡ flat_map print (take i xs) → text' ≡ text ++ print x → text' ≡ flat_map print (take (i + 1) xs)
printed_next print xs i x text text' within is before more =
    more ∙ ap (λ t. t ++ print x) before ∙ flat_map_more print [] (take i xs) x
    ∙ ap (flat_map print) (ap (λ y. take i xs ++ y ∷ []) is ∙ sym (take_more xs i x within))
