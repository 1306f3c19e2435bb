-- What bodies and items don't hold of, each in one point alone, and what the text sets where they do,
-- worked out by hand.
use Rattle.std.specs.Prelude.{◌≡◌, ℕ, List, [], ◌∷◌, Some, None, codes}
use Rattle.std.proofs.Common.{refl, ap, ◌∙◌}
use Rattle.std.proofs.lemmas.Bool.{false≢true}
use Rattle.dts_lex.specs.Bytes.{is_label_start}
use Rattle.dts_lex.specs.Class.{has, is_label}
use Rattle.dts_tree.specs.Setting.{Path, Root, Labelled, Child, Setting, OpensRoot, Opens, Adds, Sets}
use Rattle.dts_tree.specs.Lexeme.{Version, Semicolon, Colon, Equals, Slash, Open, Close, Word, String, Ref, may_name_property}
use Rattle.dts_tree.specs.Grammar.{Told, IsOpening, AreMembers, AreItems, IsFile}
use Rattle.dts_tree.specs.Grammar as grammar
use Rattle.dts_tree.proofs.WorkedContents.{label}
use Rattle.dts_tree.proofs.WorkedGrammar.{mute, telling}

-- what the { of x: a { sets
opening_sets : (parent : Path) (name : List ℕ) (s : Setting) (rest : List Told) → IsOpening parent [] name (mute (Word (codes "x")) 0 ∷ mute Colon 1 ∷ mute (Word (codes "a")) 2 ∷ telling Open 3 s ∷ []) rest → s ≡ Opens parent (codes "a") 2 (label (codes "x") 0 ∷ [])
opening_sets parent _ s _ (grammar.label _ word _ _ _ _ _ is form colon (grammar.label _ other _ _ _ _ _ is_other form_other colon_other others)) =
    let e : Open ≡ Colon = colon_other.0 in
    absurd (let f : ⊥ = cc in f)
opening_sets parent _ s _ (grammar.label _ word _ _ _ _ _ is form colon (grammar.name _ name _ _ _ is_name opens)) =
    let e : Word (codes "x") ≡ Word word = is.0 in
    let f : Word (codes "a") ≡ Word name = is_name.0 in
    let sets : Some s ≡ Some (Opens parent name 2 (label word 0 ∷ [])) = opens.1 in
    cc
opening_sets parent _ s _ (grammar.name _ name _ _ _ is opens) =
    let e : Colon ≡ Open = opens.0 in
    absurd (let f : ⊥ = cc in f)

other_parent : (name : List ℕ) (rest : List Told) → ¬ IsOpening Root [] name (mute (Word (codes "x")) 0 ∷ mute Colon 1 ∷ mute (Word (codes "a")) 2 ∷ telling Open 3 (Opens (Labelled (codes "l")) (codes "a") 2 (label (codes "x") 0 ∷ [])) ∷ []) rest
other_parent name rest h = let e = opening_sets Root name _ rest h in cc

other_place : (name : List ℕ) (rest : List Told) → ¬ IsOpening Root [] name (mute (Word (codes "x")) 0 ∷ mute Colon 1 ∷ mute (Word (codes "a")) 2 ∷ telling Open 3 (Opens Root (codes "a") 0 (label (codes "x") 0 ∷ [])) ∷ []) rest
other_place name rest h = let e = opening_sets Root name _ rest h in cc

without_labels : (name : List ℕ) (rest : List Told) → ¬ IsOpening Root [] name (mute (Word (codes "x")) 0 ∷ mute Colon 1 ∷ mute (Word (codes "a")) 2 ∷ telling Open 3 (Opens Root (codes "a") 2 []) ∷ []) rest
without_labels name rest h = let e = opening_sets Root name _ rest h in cc

-- a label with a dash
label_with_dash : (name : List ℕ) (rest : List Told) → ¬ IsOpening Root [] name (mute (Word (codes "x-y")) 0 ∷ mute Colon 1 ∷ mute (Word (codes "a")) 2 ∷ telling Open 3 (Opens Root (codes "a") 2 (label (codes "x-y") 0 ∷ [])) ∷ []) rest
unfolding is_label is_label_start has
label_with_dash _ _ (grammar.label _ word _ _ _ _ _ is form colon others) =
    let e : Word (codes "x-y") ≡ Word word = is.0 in
    let f : codes "x-y" ≡ word = cc in
    false≢true (ap is_label f ∙ form)
label_with_dash _ _ (grammar.name _ name _ _ _ is opens) = let e : Colon ≡ Open = opens.0 in cc

-- a body begins with {
opening_without_body : (name : List ℕ) (rest : List Told) → ¬ IsOpening Root [] name (mute (Word (codes "a")) 0 ∷ mute Semicolon 1 ∷ []) rest
opening_without_body _ _ (grammar.label _ word _ _ _ _ _ is form colon others) = let e : Semicolon ≡ Colon = colon.0 in cc
opening_without_body _ _ (grammar.name _ name _ _ _ is opens) = let e : Semicolon ≡ Open = opens.0 in cc

-- what the semicolon of a flag sets
flag_sets : (path : Path) (s : Setting) (rest : List Told) → AreMembers path (mute (Word (codes "f")) 0 ∷ telling Semicolon 1 s ∷ mute Close 2 ∷ []) rest → s ≡ Sets path (codes "f") []
flag_sets path s _ (grammar.end _ _ _ is) = let e : Word (codes "f") ≡ Close = is.0 in absurd (let f : ⊥ = cc in f)
flag_sets path s _ (grammar.flag _ word _ _ _ _ is form sets others) =
    let e : Word (codes "f") ≡ Word word = is.0 in
    let f : Some s ≡ Some (Sets path word []) = sets.1 in
    cc
flag_sets path s _ (grammar.property _ word _ _ _ _ _ is form equals value others) = let e : Semicolon ≡ Equals = equals.0 in absurd (let f : ⊥ = cc in f)
flag_sets path s _ (grammar.node _ name t _ _ zs _ (grammar.label _ word _ _ _ _ _ is form colon opening) inner ends others) = let e : Semicolon ≡ Colon = colon.0 in absurd (let f : ⊥ = cc in f)
flag_sets path s _ (grammar.node _ name t _ _ zs _ (grammar.name _ word _ _ _ is opens) inner ends others) = let e : Semicolon ≡ Open = opens.0 in absurd (let f : ⊥ = cc in f)

-- an at sign in the name of a flag
flag_with_at : (rest : List Told) → ¬ AreMembers Root (mute (Word (codes "f@1")) 0 ∷ telling Semicolon 1 (Sets Root (codes "f@1") []) ∷ mute Close 2 ∷ []) rest
unfolding may_name_property
flag_with_at _ (grammar.end _ _ _ is) = let e : Word (codes "f@1") ≡ Close = is.0 in cc
flag_with_at _ (grammar.flag _ word _ _ _ _ is form sets others) =
    let e : Word (codes "f@1") ≡ Word word = is.0 in
    let f : codes "f@1" ≡ word = cc in
    false≢true (ap may_name_property f ∙ form)
flag_with_at _ (grammar.property _ word _ _ _ _ _ is form equals value others) = let e : Semicolon ≡ Equals = equals.0 in cc
flag_with_at _ (grammar.node _ name t _ _ zs _ (grammar.label _ word _ _ _ _ _ is form colon opening) inner ends others) = let e : Semicolon ≡ Colon = colon.0 in cc
flag_with_at _ (grammar.node _ name t _ _ zs _ (grammar.name _ word _ _ _ is opens) inner ends others) = let e : Semicolon ≡ Open = opens.0 in cc

-- and in that of a property with a value
property_with_at : (rest : List Told) → ¬ AreMembers Root (mute (Word (codes "f@1")) 0 ∷ mute Equals 1 ∷ mute (String []) 2 ∷ mute Semicolon 3 ∷ mute Close 4 ∷ []) rest
unfolding may_name_property
property_with_at _ (grammar.end _ _ _ is) = let e : Word (codes "f@1") ≡ Close = is.0 in cc
property_with_at _ (grammar.flag _ word _ _ _ _ is form sets others) = let e : Equals ≡ Semicolon = sets.0 in cc
property_with_at _ (grammar.property _ word _ _ _ _ _ is form equals value others) =
    let e : Word (codes "f@1") ≡ Word word = is.0 in
    let f : codes "f@1" ≡ word = cc in
    false≢true (ap may_name_property f ∙ form)
property_with_at _ (grammar.node _ name t _ _ zs _ (grammar.label _ word _ _ _ _ _ is form colon opening) inner ends others) = let e : Equals ≡ Colon = colon.0 in cc
property_with_at _ (grammar.node _ name t _ _ zs _ (grammar.name _ word _ _ _ is opens) inner ends others) = let e : Equals ≡ Open = opens.0 in cc

-- a closed body: nothing else is in it
pub only_closed : (path : Path) (ts rest : List Told) → AreMembers path (mute Close 2 ∷ ts) rest → ts ≡ rest
only_closed path _ _ (grammar.end _ _ _ is) = refl
only_closed path _ _ (grammar.flag _ word _ _ _ _ is form sets others) = let e : Close ≡ Word word = is.0 in absurd (let f : ⊥ = cc in f)
only_closed path _ _ (grammar.property _ word _ _ _ _ _ is form equals value others) = let e : Close ≡ Word word = is.0 in absurd (let f : ⊥ = cc in f)
only_closed path _ _ (grammar.node _ name t _ _ zs _ (grammar.label _ word _ _ _ _ _ is form colon opening) inner ends others) = let e : Close ≡ Word word = is.0 in absurd (let f : ⊥ = cc in f)
only_closed path _ _ (grammar.node _ name t _ _ zs _ (grammar.name _ word _ _ _ is opens) inner ends others) = let e : Close ≡ Word word = is.0 in absurd (let f : ⊥ = cc in f)

-- a { } } misses a semicolon
no_semicolon : (rest : List Told) → ¬ AreMembers Root (mute (Word (codes "a")) 0 ∷ telling Open 1 (Opens Root (codes "a") 0 []) ∷ mute Close 2 ∷ mute Close 3 ∷ []) rest
no_semicolon _ (grammar.end _ _ _ is) = let e : Word (codes "a") ≡ Close = is.0 in cc
no_semicolon _ (grammar.flag _ word _ _ _ _ is form sets others) = let e : Open ≡ Semicolon = sets.0 in cc
no_semicolon _ (grammar.property _ word _ _ _ _ _ is form equals value others) = let e : Open ≡ Equals = equals.0 in cc
no_semicolon _ (grammar.node _ name t _ _ zs _ (grammar.label _ word _ _ _ _ _ is form colon opening) inner ends others) = let e : Open ≡ Colon = colon.0 in cc
no_semicolon _ (grammar.node _ name t _ _ zs _ (grammar.name _ word _ _ _ is opens) inner ends others) =
    let closed = only_closed (Child Root name) (mute Close 3 ∷ []) (t ∷ zs) inner in
    let same : mute Close 3 ≡ t = cc in
    let sign : Close ≡ Semicolon = ap (λ u. u.lexeme) same ∙ ends.0 in
    cc

body_unclosed : (path : Path) (rest : List Told) → ¬ AreMembers path [] rest
body_unclosed path rest (grammar.node _ name t _ ys zs _ opening inner ends others) = elim opening [ ]

-- what the { of / { and the reference of &x { set
root_sets : (s : Setting) → AreItems (mute Slash 0 ∷ telling Open 1 s ∷ mute Close 2 ∷ mute Semicolon 3 ∷ []) → s ≡ OpensRoot 0
root_sets s (grammar.root _ _ v _ ys slash opens members ends others) = let e : Some s ≡ Some (OpensRoot 0) = opens.1 in cc
root_sets s (grammar.add name _ _ v _ ys is opens members ends others) = let e : Slash ≡ Ref name = is.0 in absurd (let f : ⊥ = cc in f)

added_sets : (s : Setting) → AreItems (telling (Ref (codes "x")) 0 s ∷ mute Open 1 ∷ mute Close 2 ∷ mute Semicolon 3 ∷ []) → s ≡ Adds (label (codes "x") 0)
added_sets s (grammar.root _ _ v _ ys slash opens members ends others) = let e : Ref (codes "x") ≡ Slash = slash.0 in absurd (let f : ⊥ = cc in f)
added_sets s (grammar.add name _ _ v _ ys is opens members ends others) =
    let e : Ref (codes "x") ≡ Ref name = is.0 in
    let f : Some s ≡ Some (Adds (label name 0)) = is.1 in
    cc

-- a root's body without a semicolon
no_semicolon_at_end : ¬ AreItems (mute Slash 0 ∷ telling Open 1 (OpensRoot 0) ∷ mute Close 2 ∷ mute Close 3 ∷ [])
no_semicolon_at_end (grammar.root _ _ v _ ys slash opens members ends others) =
    let closed = only_closed Root (mute Close 3 ∷ []) (v ∷ ys) members in
    let same : mute Close 3 ≡ v = cc in
    let sign : Close ≡ Semicolon = ap (λ u. u.lexeme) same ∙ ends.0 in
    cc
no_semicolon_at_end (grammar.add name _ _ v _ ys is opens members ends others) = let e : Slash ≡ Ref name = is.0 in cc

-- a property outside a body
property_outside : ¬ AreItems (mute (Word (codes "f")) 0 ∷ mute Semicolon 1 ∷ [])
property_outside (grammar.root _ _ v _ ys slash opens members ends others) = let e : Word (codes "f") ≡ Slash = slash.0 in cc
property_outside (grammar.add name _ _ v _ ys is opens members ends others) = let e : Word (codes "f") ≡ Ref name = is.0 in cc

-- texts without their first sign, without its semicolon, and with a version that sets something
no_text : ¬ IsFile []
no_text h = elim h [ ]

without_version : ¬ IsFile (mute Slash 0 ∷ mute Semicolon 1 ∷ [])
without_version (grammar.file _ _ _ version semicolon items) = let e : Slash ≡ Version = version.0 in cc

without_semicolon : ¬ IsFile (mute Version 0 ∷ mute Slash 1 ∷ [])
without_semicolon (grammar.file _ _ _ version semicolon items) = let e : Slash ≡ Semicolon = semicolon.0 in cc

version_sets_nothing : (s : Setting) → ¬ IsFile (telling Version 0 s ∷ mute Semicolon 1 ∷ [])
version_sets_nothing s (grammar.file _ _ _ version semicolon items) = let e : Some s ≡ None = version.1 in cc
