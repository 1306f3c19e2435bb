-- The only word of a command.
use Rattle.std.proofs.Common.{ℕ, ◌≡◌, ◌<◌, ◌≤◌, Bool, List, [], ◌∷◌, length, get_or, eqb, map, sym, ap, ◌∙◌, arith}
use Rattle.std.specs.Bool.{IsTrue}
use Rattle.std.specs.Cmp.Lexicographic.{pointwise}
use Rattle.std.specs.Prelude.{◌↔◌}
use Rattle.std.proofs.lemmas.Bool.Decides.{Decides-eqb}
use Rattle.std.proofs.lemmas.Slice.Eq.{slice_eq-Decides}

-- one word is all the words
pub sole_word : {A : Type 0} (bytes : A → List ℕ) (words : List A) (word : A) → 1 ≤ length words → length words < 2 → word ≡ get_or words 0 word → map bytes words ≡ bytes word ∷ []
sole_word bytes [] word some few is = absurd (omega arith)
sole_word bytes (first ∷ []) word some few is = ap (λ w. bytes w ∷ []) (sym is)
sole_word bytes (first ∷ second ∷ rest) word some few is = absurd (omega arith)

-- the words are this one exactly where their only one is
pub is_word : (words : List (List ℕ)) (text target : List ℕ) (r : Bool) → r ≡ pointwise eqb text target → words ≡ text ∷ [] → IsTrue r ↔ (words ≡ target ∷ [])
is_word words text target r test only =
    let decides = slice_eq-Decides Decides-eqb text target r test in
    (λ yes. only ∙ ap (λ t. t ∷ []) (decides.0 yes), λ is. decides.1 (ap (λ ws. get_or ws 0 []) (sym only ∙ is)))
