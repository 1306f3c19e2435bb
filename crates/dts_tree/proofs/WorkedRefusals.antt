-- What the grammar's rules don't hold of, each in one point alone, and what the text sets where they do,
-- worked out by hand.
use Rattle.std.specs.Prelude.{◌≡◌, ℕ, List, [], ◌∷◌, ◌++◌, false, Some, None, codes}
use Rattle.std.proofs.Common.{refl, ap, sym, ◌∙◌}
use Rattle.std.proofs.lemmas.Bool.{false≢true}
use Rattle.dts_tree.specs.declared.value.Cell.{Cell}
use Rattle.dts_tree.specs.declared.value.Cell.TheVariants as cell
use Rattle.dts_tree.specs.Value.{Part, Text, Bytes}
use Rattle.dts_tree.specs.Setting.{Label, Path, Root, Labelled, Setting, OpensRoot, Sets}
use Rattle.dts_tree.specs.Lexeme.{Semicolon, Comma, Close, Less, Greater, Left, Right, Word, Number, String, Ref, is_bytes}
use Rattle.dts_tree.specs.Grammar.{Told, IsCells, IsBytes, IsPart, IsValue}
use Rattle.dts_tree.specs.Grammar as grammar
use Rattle.dts_tree.proofs.WorkedContents.{label}
use Rattle.dts_tree.proofs.WorkedGrammar.{mute, telling}

-- cells that a bracket closes, that nothing closes, and a > with which the text would set something
cells_by_bracket : (cells : List (Cell Label)) (rest : List Told) → ¬ IsCells cells (mute Right 1 ∷ []) rest
cells_by_bracket _ _ (grammar.end _ _ is) = let e : Right ≡ Greater = is.0 in cc
cells_by_bracket _ _ (grammar.number n _ _ _ _ is others) = let e : Right ≡ Number n = is.0 in cc
cells_by_bracket _ _ (grammar.ref name _ _ _ _ is others) = let e : Right ≡ Ref name = is.0 in cc

cells_unclosed : (cells : List (Cell Label)) (rest : List Told) → ¬ IsCells cells [] rest
cells_unclosed cells rest h = elim h [ ]

telling_end : (rest : List Told) → ¬ IsCells [] (telling Greater 1 (OpensRoot 1) ∷ []) rest
telling_end _ (grammar.end _ _ is) = let e : Some (OpensRoot 1) ≡ None = is.1 in cc

-- the label that &x > tells, and the number of 1 >
only_label : (l : Label) (rest : List Told) → IsCells (cell.Node l ∷ []) (mute (Ref (codes "x")) 1 ∷ mute Greater 2 ∷ []) rest → l ≡ label (codes "x") 1
only_label _ _ (grammar.ref name _ _ _ _ is others) =
    let e : Ref (codes "x") ≡ Ref name = is.0 in
    let f : codes "x" ≡ name = cc in
    ap (λ xs. label xs 1) (sym f)

only_number : (n : ℕ) (rest : List Told) → IsCells (cell.Num n ∷ []) (mute (Number 1) 1 ∷ mute Greater 2 ∷ []) rest → n ≡ 1
only_number n _ (grammar.number _ _ _ _ _ is others) = let e : Number 1 ≡ Number n = is.0 in cc

-- a word of odd length among bytes, one with a letter behind f, and bytes that a > closes
no_bytes_word : (word bytes : List ℕ) (rest : List Told) → is_bytes word ≡ false → ¬ IsBytes bytes (mute (Word word) 1 ∷ mute Right 2 ∷ []) rest
no_bytes_word word _ _ is_none (grammar.end _ _ is) = let e : Word word ≡ Right = is.0 in cc
no_bytes_word word _ _ is_none (grammar.word other _ _ _ _ is digits others) =
    let e : Word word ≡ Word other = is.0 in
    let f : word ≡ other = cc in
    false≢true (sym is_none ∙ ap is_bytes f ∙ digits)

odd_bytes : (bytes : List ℕ) (rest : List Told) → ¬ IsBytes bytes (mute (Word (codes "0aF")) 1 ∷ mute Right 2 ∷ []) rest
unfolding is_bytes
odd_bytes bytes rest = no_bytes_word (codes "0aF") bytes rest refl

letter_among_bytes : (bytes : List ℕ) (rest : List Told) → ¬ IsBytes bytes (mute (Word (codes "0g")) 1 ∷ mute Right 2 ∷ []) rest
unfolding is_bytes
letter_among_bytes bytes rest = no_bytes_word (codes "0g") bytes rest refl

bytes_by_greater : (bytes : List ℕ) (rest : List Told) → ¬ IsBytes bytes (mute Greater 1 ∷ []) rest
bytes_by_greater _ _ (grammar.end _ _ is) = let e : Greater ≡ Right = is.0 in cc
bytes_by_greater _ _ (grammar.word word _ _ _ _ is digits others) = let e : Greater ≡ Word word = is.0 in cc

-- a word is no part, and a string is a part in one way
word_is_no_part : (part : Part Label) (rest : List Told) → ¬ IsPart part (mute (Word (codes "a")) 0 ∷ []) rest
word_is_no_part _ _ (grammar.cells _ _ _ _ is others) = let e : Word (codes "a") ≡ Less = is.0 in cc
word_is_no_part _ _ (grammar.bytes _ _ _ _ is others) = let e : Word (codes "a") ≡ Left = is.0 in cc
word_is_no_part _ _ (grammar.text bytes _ _ is) = let e : Word (codes "a") ≡ String bytes = is.0 in cc
word_is_no_part _ _ (grammar.ref name _ _ is) = let e : Word (codes "a") ≡ Ref name = is.0 in cc

pub only_text : (part : Part Label) (ts rest : List Told) → IsPart part (mute (String (codes "t")) 0 ∷ ts) rest → (part ≡ Text (codes "t")) × (ts ≡ rest)
only_text _ _ _ (grammar.cells _ _ _ _ is others) = let e : String (codes "t") ≡ Less = is.0 in absurd (let f : ⊥ = cc in f)
only_text _ _ _ (grammar.bytes _ _ _ _ is others) = let e : String (codes "t") ≡ Left = is.0 in absurd (let f : ⊥ = cc in f)
only_text _ _ _ (grammar.text bytes _ _ is) =
    let e : String (codes "t") ≡ String bytes = is.0 in
    let f : codes "t" ≡ bytes = cc in
    (ap (λ xs. Text xs) (sym f), refl)
only_text _ _ _ (grammar.ref name _ _ is) = let e : String (codes "t") ≡ Ref name = is.0 in absurd (let f : ⊥ = cc in f)

-- what the semicolon behind "t" sets, also behind another part; and another sign in its place
value_sets : (path : Path) (name : List ℕ) (before : List (Part Label)) (s : Setting) (rest : List Told) → IsValue path name before (mute (String (codes "t")) 0 ∷ telling Semicolon 1 s ∷ []) rest → s ≡ Sets path name (before ++ Text (codes "t") ∷ [])
value_sets path name _ s _ (grammar.last before part t _ rest is ends) =
    let only = only_text part (telling Semicolon 1 s ∷ []) (t ∷ rest) is in
    let same : telling Semicolon 1 s ≡ t = let e = only.1 in cc in
    let sets : Some s ≡ Some (Sets path name (before ++ part ∷ [])) = ap (λ u. u.sets) same ∙ ends.1 in
    let f : s ≡ Sets path name (before ++ part ∷ []) = cc in
    f ∙ ap (λ p. Sets path name (before ++ p ∷ [])) only.0
value_sets path name _ s rest (grammar.more before part t _ ys _ is comma others) =
    let only = only_text part (telling Semicolon 1 s ∷ []) (t ∷ ys) is in
    let same : telling Semicolon 1 s ≡ t = let e = only.1 in cc in
    let sign : Semicolon ≡ Comma = ap (λ u. u.lexeme) same ∙ comma.0 in
    absurd (let f : ⊥ = cc in f)

other_path : (rest : List Told) → ¬ IsValue Root (codes "p") [] (mute (String (codes "t")) 0 ∷ telling Semicolon 1 (Sets (Labelled (codes "l")) (codes "p") (Text (codes "t") ∷ [])) ∷ []) rest
other_path rest h = let e = value_sets Root (codes "p") [] _ rest h in let f : Labelled (codes "l") ≡ Root = cc in cc

other_name : (rest : List Told) → ¬ IsValue Root (codes "p") [] (mute (String (codes "t")) 0 ∷ telling Semicolon 1 (Sets Root (codes "pp") (Text (codes "t") ∷ [])) ∷ []) rest
other_name rest h = let e = value_sets Root (codes "p") [] _ rest h in cc

parts_left_out : (rest : List Told) → ¬ IsValue Root (codes "p") (Bytes [] ∷ []) (mute (String (codes "t")) 0 ∷ telling Semicolon 1 (Sets Root (codes "p") (Text (codes "t") ∷ [])) ∷ []) rest
parts_left_out rest h = let e = value_sets Root (codes "p") (Bytes [] ∷ []) _ rest h in cc

no_semicolon : (rest : List Told) → ¬ IsValue Root (codes "p") [] (mute (String (codes "t")) 0 ∷ mute Close 1 ∷ []) rest
no_semicolon _ (grammar.last before part t _ rest is ends) =
    let only = only_text part (mute Close 1 ∷ []) (t ∷ rest) is in
    let same : mute Close 1 ≡ t = let e = only.1 in cc in
    let sign : Close ≡ Semicolon = ap (λ u. u.lexeme) same ∙ ends.0 in
    cc
no_semicolon rest (grammar.more before part t _ ys _ is comma others) =
    let only = only_text part (mute Close 1 ∷ []) (t ∷ ys) is in
    let same : mute Close 1 ≡ t = let e = only.1 in cc in
    let sign : Close ≡ Comma = ap (λ u. u.lexeme) same ∙ comma.0 in
    cc
