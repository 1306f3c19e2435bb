-- The bounds of requests, one request at a time.
use Rattle.std.proofs.Common.{◌≡◌, ℕ, ◌+◌, ◌<◌, Bool, true, false, ◌&&◌, List, [], ◌∷◌, ◌++◌, Option, Some, None, refl, sym, ap, ◌∙◌, length, get_or, take}
use Rattle.std.specs.Prelude.{filter_map}
use Rattle.std.specs.List.{list_all}
use Rattle.std.proofs.lemmas.List.{take_more}
use Rattle.std.proofs.lemmas.List.Folds.{list_all-append}
use Rattle.std.proofs.lemmas.List.Elements.{filter_map-append}
use Rattle.plain_board.specs.Requests.{meets}
use Rattle.regulator_main.specs.Inside.Asked.{meets_any}

and_assoc : (a b c : Bool) → ((a && b) && c) ≡ (a && (b && c))
and_assoc true b c = refl
and_assoc false b c = refl

and_true : (a : Bool) → a ≡ (a && true)
and_true true = refl
and_true false = refl

all_of_one : {X : Type 0} (uv : ℕ) (f : X → Option (ℕ × ℕ)) (x : X) (o : Option (ℕ × ℕ)) → f x ≡ o → list_all (meets uv) (filter_map f (x ∷ [])) ≡ meets_any uv o
all_of_one uv f x None is = rw is
all_of_one uv f x (Some q) is = rw is (sym (and_true (meets uv q)))

-- one row more, and what it asks
pub one_more : {X : Type 0} (uv : ℕ) (r : ℕ × ℕ) (f : X → Option (ℕ × ℕ)) (xs : List X) (i : ℕ) (x : X) (o : Option (ℕ × ℕ)) → i < length xs → x ≡ get_or xs i x → f x ≡ o
    → list_all (meets uv) (r ∷ filter_map f (take (i + 1) xs)) ≡ (list_all (meets uv) (r ∷ filter_map f (take i xs)) && meets_any uv o)
one_more uv r f xs i x o within here is =
    ap (λ ys. list_all (meets uv) (r ∷ filter_map f ys)) (take_more xs i x within ∙ ap (λ y. take i xs ++ y ∷ []) (sym here))
    ∙ ap (λ qs. meets uv r && list_all (meets uv) qs) (filter_map-append f (take i xs) (x ∷ []))
    ∙ ap (λ b. meets uv r && b) (list_all-append (meets uv) (filter_map f (take i xs)) (filter_map f (x ∷ [])) ∙ ap (λ b. list_all (meets uv) (filter_map f (take i xs)) && b) (all_of_one uv f x o is))
    ∙ sym (and_assoc (meets uv r) (list_all (meets uv) (filter_map f (take i xs))) (meets_any uv o))
