-- The last of a list, apart.
use Rattle.std.proofs.Common.{◌≡◌, ℕ, ◌+◌, ◌-◌, ◌<◌, List, [], ◌∷◌, ◌++◌, Option, Some, None, length, get_or, take, slice_get, sym, ap, ◌∙◌, arith}
use Rattle.std.specs.Option.{MatchOption}
use Rattle.std.proofs.lemmas.Option.{slice_get_within, get_or_from_slice_get}
use Rattle.std.proofs.lemmas.List.{take_more, take_all, length_push, same_from_push}

-- what is left once the last is taken out
pub popped_rest : {X : Type 0} (old new rest : List X) (popped : Option X) (x : X)
    → MatchOption popped ((old ≡ []) × (new ≡ [])) (λ last. old ≡ new ++ last ∷ []) → old ≡ rest ++ x ∷ [] → new ≡ rest
popped_rest old new rest None x none top = absurd (omega (arith, ap length none.0, ap length top, length_push rest x))
popped_rest old new rest (Some last) x some top = (same_from_push new rest last x (sym some ∙ top)).0

-- the list as its last and those before
pub last_apart : {X : Type 0} (xs : List X) (d : X) → 0 < length xs → xs ≡ take (length xs - 1) xs ++ get_or xs (length xs - 1) d ∷ []
last_apart xs d some =
    let number : length xs - 1 + 1 ≡ length xs = omega arith in
    sym (take_all (length xs - 1 + 1) xs (omega arith)) ∙ take_more xs (length xs - 1) d (omega arith)

pub last_of : (xs ys : List ℕ) (n : ℕ) → xs ≡ ys → n ≡ length ys → get_or xs (n - 1) 0 ≡ get_or ys (length ys - 1) 0
last_of xs ys n same count = rw same (rw count (λ i. get_or ys (length ys - 1) 0))

pub last_is : {X : Type 0} (xs : List X) (x : X) → slice_get xs (length xs - 1) ≡ Some x → xs ≡ take (length xs - 1) xs ++ x ∷ []
last_is xs x is =
    let within : length xs - 1 < length xs = slice_get_within xs (length xs - 1) x is in
    last_apart xs x (omega arith) ∙ ap (λ y. take (length xs - 1) xs ++ y ∷ []) (get_or_from_slice_get xs (length xs - 1) x x is)
