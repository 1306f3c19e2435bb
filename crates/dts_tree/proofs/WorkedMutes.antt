-- The tokens with which no text sets anything, and the signs around the bodies of items, worked out by hand.
use Rattle.std.specs.Prelude.{◌≡◌, ℕ, List, [], ◌∷◌, Some, None, codes}
use Rattle.std.proofs.Common.{ap, sym, ◌∙◌}
use Rattle.dts_tree.specs.declared.value.Cell.{Cell}
use Rattle.dts_tree.specs.Value.{Part}
use Rattle.dts_tree.specs.Setting.{Label, Path, Root, Setting}
use Rattle.dts_tree.specs.Lexeme.{Lexeme, Version, Semicolon, Colon, Equals, Comma, Slash, Open, Close, Word, String, Ref}
use Rattle.dts_tree.specs.Grammar.{Told, Is, IsCells, IsBytes, IsPart, IsValue, IsOpening, AreMembers, AreItems, IsFile}
use Rattle.dts_tree.specs.Grammar as grammar
use Rattle.dts_tree.proofs.WorkedGrammar.{mute, telling}
use Rattle.dts_tree.proofs.WorkedRefusals.{only_text}
use Rattle.dts_tree.proofs.WorkedBodies.{only_closed}

-- a token sets something or nothing
not_both : (lexeme : Lexeme) (t : Told) (s : Setting) → t.sets ≡ Some s → ¬ Is lexeme None t
not_both lexeme t s sets is = let e : Some s ≡ None = sym sets ∙ is.1 in cc

-- among cells and among bytes, at the beginning of a part, and of a member
module _ (t : Told) (s : Setting) (sets : t.sets ≡ Some s) where
  in_cells : (cells : List (Cell Label)) (ts rest : List Told) → ¬ IsCells cells (t ∷ ts) rest
  in_cells _ _ _ (grammar.end _ _ is) = not_both _ t s sets is
  in_cells _ _ _ (grammar.number n _ _ _ _ is others) = not_both _ t s sets is
  in_cells _ _ _ (grammar.ref name _ _ _ _ is others) = not_both _ t s sets is

  in_bytes : (bytes : List ℕ) (ts rest : List Told) → ¬ IsBytes bytes (t ∷ ts) rest
  in_bytes _ _ _ (grammar.end _ _ is) = not_both _ t s sets is
  in_bytes _ _ _ (grammar.word word _ _ _ _ is digits others) = not_both _ t s sets is

  before_part : (part : Part Label) (ts rest : List Told) → ¬ IsPart part (t ∷ ts) rest
  before_part _ _ _ (grammar.cells _ _ _ _ is others) = not_both _ t s sets is
  before_part _ _ _ (grammar.bytes _ _ _ _ is others) = not_both _ t s sets is
  before_part _ _ _ (grammar.text bytes _ _ is) = not_both _ t s sets is
  before_part _ _ _ (grammar.ref name _ _ is) = not_both _ t s sets is

  before_opening : (parent : Path) (before : List Label) (name : List ℕ) (ts rest : List Told) → ¬ IsOpening parent before name (t ∷ ts) rest
  before_opening parent _ _ _ _ (grammar.label _ word _ _ _ _ _ is form colon others) = not_both _ t s sets is
  before_opening parent _ _ _ _ (grammar.name _ name _ _ _ is opens) = not_both _ t s sets is

  before_member : (path : Path) (ts rest : List Told) → ¬ AreMembers path (t ∷ ts) rest
  before_member path _ _ (grammar.end _ _ _ is) = not_both _ t s sets is
  before_member path _ _ (grammar.flag _ word _ _ _ _ is form ends others) = not_both _ t s sets is
  before_member path _ _ (grammar.property _ word _ _ _ _ _ is form equals value others) = not_both _ t s sets is
  before_member path ts rest (grammar.node _ name u _ ys zs _ opening inner ends others) = before_opening path [] name ts ys opening

-- the comma between two parts
comma : (s : Setting) (ts rest : List Told) → ¬ IsValue Root (codes "p") [] (mute (String (codes "t")) 0 ∷ telling Comma 1 s ∷ ts) rest
comma s ts _ (grammar.last before part t _ rest is ends) =
    let only = only_text part (telling Comma 1 s ∷ ts) (t ∷ rest) is in
    let same : telling Comma 1 s ≡ t = let e = only.1 in cc in
    let sign : Comma ≡ Semicolon = ap (λ u. u.lexeme) same ∙ ends.0 in
    cc
comma s ts rest (grammar.more before part t _ ys _ is joins others) =
    let only = only_text part (telling Comma 1 s ∷ ts) (t ∷ ys) is in
    let same : telling Comma 1 s ≡ t = let e = only.1 in cc in
    let sets : Some s ≡ None = ap (λ u. u.sets) same ∙ joins.1 in
    cc

-- the colon of a label, and the = of a property
colon : (parent : Path) (before : List Label) (word name : List ℕ) (s : Setting) (ts rest : List Told) → ¬ IsOpening parent before name (mute (Word word) 0 ∷ telling Colon 1 s ∷ ts) rest
colon parent _ word _ s ts _ (grammar.label _ _ _ _ _ _ _ is form sign others) = let e : Some s ≡ None = sign.1 in cc
colon parent _ word _ s ts _ (grammar.name _ _ _ _ _ is opens) = let e : Colon ≡ Open = opens.0 in cc

equals : (path : Path) (word : List ℕ) (s : Setting) (ts rest : List Told) → ¬ AreMembers path (mute (Word word) 0 ∷ telling Equals 1 s ∷ ts) rest
equals path word s ts _ (grammar.end _ _ _ is) = let e : Word word ≡ Close = is.0 in cc
equals path word s ts _ (grammar.flag _ _ _ _ _ _ is form ends others) = let e : Equals ≡ Semicolon = ends.0 in cc
equals path word s ts _ (grammar.property _ _ _ _ _ _ _ is form sign value others) = let e : Some s ≡ None = sign.1 in cc
equals path word s ts _ (grammar.node _ name t _ _ zs _ (grammar.label _ _ _ _ _ _ _ is form sign opening) inner ends others) = let e : Equals ≡ Colon = sign.0 in cc
equals path word s ts _ (grammar.node _ name t _ _ zs _ (grammar.name _ _ _ _ _ is opens) inner ends others) = let e : Equals ≡ Open = opens.0 in cc

-- the semicolon behind the body of a node
behind_node : (path : Path) (word : List ℕ) (r s : Setting) (ts rest : List Told) → ¬ AreMembers path (mute (Word word) 0 ∷ telling Open 1 r ∷ mute Close 2 ∷ telling Semicolon 3 s ∷ ts) rest
behind_node path word r s ts _ (grammar.end _ _ _ is) = let e : Word word ≡ Close = is.0 in cc
behind_node path word r s ts _ (grammar.flag _ _ _ _ _ _ is form ends others) = let e : Open ≡ Semicolon = ends.0 in cc
behind_node path word r s ts _ (grammar.property _ _ _ _ _ _ _ is form sign value others) = let e : Open ≡ Equals = sign.0 in cc
behind_node path word r s ts _ (grammar.node _ name t _ _ zs _ (grammar.label _ _ _ _ _ _ _ is form sign opening) inner ends others) = let e : Open ≡ Colon = sign.0 in cc
behind_node path word r s ts _ (grammar.node _ name t _ _ zs _ (grammar.name _ _ _ _ _ is opens) inner ends others) =
    let closed = only_closed _ (telling Semicolon 3 s ∷ ts) (t ∷ zs) inner in
    let same : telling Semicolon 3 s ≡ t = cc in
    let sets : Some s ≡ None = ap (λ u. u.sets) same ∙ ends.1 in
    cc

-- the slash of the root's body
slash : (s : Setting) (ts : List Told) → ¬ AreItems (telling Slash 0 s ∷ ts)
slash s _ (grammar.root _ _ v _ ys is opens members ends others) = let e : Some s ≡ None = is.1 in cc
slash s _ (grammar.add name _ _ v _ ys is opens members ends others) = let e : Slash ≡ Ref name = is.0 in cc

-- a slash or a reference without a body, and a { that would set something behind a reference
slash_alone : (s : Setting) (ts : List Told) → ¬ AreItems (mute Slash 0 ∷ telling Semicolon 1 s ∷ ts)
slash_alone s ts (grammar.root _ _ v _ ys is opens members ends others) = let e : Semicolon ≡ Open = opens.0 in cc
slash_alone s ts (grammar.add name _ _ v _ ys is opens members ends others) = let e : Slash ≡ Ref name = is.0 in cc

reference_alone : (name : List ℕ) (s : Setting) (ts : List Told) → ¬ AreItems (telling (Ref name) 0 s ∷ mute Semicolon 1 ∷ ts)
reference_alone name s ts (grammar.root _ _ v _ ys is opens members ends others) = let e : Ref name ≡ Slash = is.0 in cc
reference_alone name s ts (grammar.add _ _ _ v _ ys is opens members ends others) = let e : Semicolon ≡ Open = opens.0 in cc

added_body : (name : List ℕ) (r s : Setting) (ts : List Told) → ¬ AreItems (telling (Ref name) 0 r ∷ telling Open 1 s ∷ ts)
added_body name r s ts (grammar.root _ _ v _ ys is opens members ends others) = let e : Ref name ≡ Slash = is.0 in cc
added_body name r s ts (grammar.add _ _ _ v _ ys is opens members ends others) = let e : Some s ≡ None = opens.1 in cc

-- what is behind the body of an item is a semicolon, and sets nothing
behind_root : (r s : Setting) (ts : List Told) → ¬ AreItems (mute Slash 0 ∷ telling Open 1 r ∷ mute Close 2 ∷ telling Semicolon 3 s ∷ ts)
behind_root r s ts (grammar.root _ _ v _ ys is opens members ends others) =
    let closed = only_closed Root (telling Semicolon 3 s ∷ ts) (v ∷ ys) members in
    let same : telling Semicolon 3 s ≡ v = cc in
    let sets : Some s ≡ None = ap (λ u. u.sets) same ∙ ends.1 in
    cc
behind_root r s ts (grammar.add name _ _ v _ ys is opens members ends others) = let e : Slash ≡ Ref name = is.0 in cc

behind_addition : (name : List ℕ) (r s : Setting) (ts : List Told) → ¬ AreItems (telling (Ref name) 0 r ∷ mute Open 1 ∷ mute Close 2 ∷ telling Semicolon 3 s ∷ ts)
behind_addition name r s ts (grammar.root _ _ v _ ys is opens members ends others) = let e : Ref name ≡ Slash = is.0 in cc
behind_addition name r s ts (grammar.add _ _ _ v _ ys is opens members ends others) =
    let closed = only_closed _ (telling Semicolon 3 s ∷ ts) (v ∷ ys) members in
    let same : telling Semicolon 3 s ≡ v = cc in
    let sets : Some s ≡ None = ap (λ u. u.sets) same ∙ ends.1 in
    cc

no_semicolon_behind_addition : (name : List ℕ) (r : Setting) (ts : List Told) → ¬ AreItems (telling (Ref name) 0 r ∷ mute Open 1 ∷ mute Close 2 ∷ mute Comma 3 ∷ ts)
no_semicolon_behind_addition name r ts (grammar.root _ _ v _ ys is opens members ends others) = let e : Ref name ≡ Slash = is.0 in cc
no_semicolon_behind_addition name r ts (grammar.add _ _ _ v _ ys is opens members ends others) =
    let closed = only_closed _ (mute Comma 3 ∷ ts) (v ∷ ys) members in
    let same : mute Comma 3 ≡ v = cc in
    let sign : Comma ≡ Semicolon = ap (λ u. u.lexeme) same ∙ ends.0 in
    cc

-- the semicolon behind the version
behind_version : (s : Setting) (ts : List Told) → ¬ IsFile (mute Version 0 ∷ telling Semicolon 1 s ∷ ts)
behind_version s ts (grammar.file _ _ _ version semicolon items) = let e : Some s ≡ None = semicolon.1 in cc
