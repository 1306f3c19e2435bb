-- What the grammar's rules hold of, worked out by hand; the places count the tokens.
use Rattle.std.specs.Prelude.{◌≡◌, ℕ, List, [], ◌∷◌, Option, Some, None, codes}
use Rattle.std.proofs.Common.{refl}
use Rattle.dts_lex.specs.Bytes.{is_label_start}
use Rattle.dts_lex.specs.Class.{has, is_label}
use Rattle.dts_tree.specs.declared.value.Cell.TheVariants as cell
use Rattle.dts_tree.specs.Value.{Cells, Text, Bytes, Whole}
use Rattle.dts_tree.specs.Setting.{Root, Labelled, Child, Setting, OpensRoot, Opens, Adds, Sets}
use Rattle.dts_tree.specs.Lexeme.{Lexeme, Version, Semicolon, Colon, Equals, Comma, Slash, Open, Close, Less, Greater, Left, Right, Word, Number, String, Ref, may_name_property, is_bytes}
use Rattle.dts_tree.specs.Grammar.{Told, IsCells, IsBytes, IsPart, IsValue, IsOpening, AreMembers, AreItems, IsFile}
use Rattle.dts_tree.specs.Grammar as grammar
use Rattle.dts_tree.proofs.WorkedContents.{label}

-- a token that sets nothing, and one with which the text sets something
abbrev pub mute : Lexeme → ℕ → Told
mute lexeme at = record { lexeme = lexeme; at = at; sets = None }

abbrev pub telling : Lexeme → ℕ → Setting → Told
telling lexeme at setting = record { lexeme = lexeme; at = at; sets = Some setting }

abbrev says : {lexeme : Lexeme} {sets : Option Setting} → (lexeme ≡ lexeme) × (sets ≡ sets)
says = (refl, refl)

-- >;   1 &x >;
no_cells : IsCells [] (mute Greater 1 ∷ mute Semicolon 2 ∷ []) (mute Semicolon 2 ∷ [])
no_cells = grammar.end _ _ says

two_cells : IsCells (cell.Num 1 ∷ cell.Node (label (codes "x") 2) ∷ []) (mute (Number 1) 1 ∷ mute (Ref (codes "x")) 2 ∷ mute Greater 3 ∷ mute Semicolon 4 ∷ []) (mute Semicolon 4 ∷ [])
two_cells = grammar.number _ _ _ _ _ says (grammar.ref _ _ _ _ _ says (grammar.end _ _ says))

-- ];   0aFF 7f ];
none_in_brackets : IsBytes [] (mute Right 1 ∷ mute Semicolon 2 ∷ []) (mute Semicolon 2 ∷ [])
none_in_brackets = grammar.end _ _ says

three_bytes : IsBytes (10 ∷ 255 ∷ 127 ∷ []) (mute (Word (codes "0aFF")) 1 ∷ mute (Word (codes "7f")) 2 ∷ mute Right 3 ∷ mute Semicolon 4 ∷ []) (mute Semicolon 4 ∷ [])
unfolding is_bytes
three_bytes = grammar.word (codes "0aFF") (127 ∷ []) _ _ _ says refl (grammar.word (codes "7f") [] _ _ _ says refl (grammar.end _ _ says))

-- <1>,   [0a],   "t",   &x,
part_of_cells : IsPart (Cells (cell.Num 1 ∷ [])) (mute Less 0 ∷ mute (Number 1) 1 ∷ mute Greater 2 ∷ mute Comma 3 ∷ []) (mute Comma 3 ∷ [])
part_of_cells = grammar.cells _ _ _ _ says (grammar.number _ _ _ _ _ says (grammar.end _ _ says))

part_of_bytes : IsPart (Bytes (10 ∷ [])) (mute Left 0 ∷ mute (Word (codes "0a")) 1 ∷ mute Right 2 ∷ mute Comma 3 ∷ []) (mute Comma 3 ∷ [])
unfolding is_bytes
part_of_bytes = grammar.bytes _ _ _ _ says (grammar.word (codes "0a") [] _ _ _ says refl (grammar.end _ _ says))

part_of_text : IsPart (Text (codes "t")) (mute (String (codes "t")) 0 ∷ mute Comma 1 ∷ []) (mute Comma 1 ∷ [])
part_of_text = grammar.text _ _ _ says

part_of_reference : IsPart (Whole (label (codes "x") 5)) (mute (Ref (codes "x")) 5 ∷ mute Comma 6 ∷ []) (mute Comma 6 ∷ [])
part_of_reference = grammar.ref _ _ _ says

-- "t"; }   behind nothing and behind another part
one_part : IsValue Root (codes "p") [] (mute (String (codes "t")) 0 ∷ telling Semicolon 1 (Sets Root (codes "p") (Text (codes "t") ∷ [])) ∷ mute Close 2 ∷ []) (mute Close 2 ∷ [])
one_part = grammar.last _ _ _ _ _ (grammar.text _ _ _ says) says

later_part : IsValue Root (codes "p") (Bytes [] ∷ []) (mute (String (codes "t")) 0 ∷ telling Semicolon 1 (Sets Root (codes "p") (Bytes [] ∷ Text (codes "t") ∷ [])) ∷ mute Close 2 ∷ []) (mute Close 2 ∷ [])
later_part = grammar.last _ _ _ _ _ (grammar.text _ _ _ says) says

-- "t", &x; }
two_parts : IsValue (Labelled (codes "l")) (codes "p") [] (mute (String (codes "t")) 0 ∷ mute Comma 1 ∷ mute (Ref (codes "x")) 2 ∷ telling Semicolon 3 (Sets (Labelled (codes "l")) (codes "p") (Text (codes "t") ∷ Whole (label (codes "x") 2) ∷ [])) ∷ mute Close 4 ∷ []) (mute Close 4 ∷ [])
two_parts = grammar.more _ _ _ _ _ _ (grammar.text _ _ _ says) says (grammar.last _ _ _ _ _ (grammar.ref _ _ _ says) says)

-- a@1 { }   and   x: y: b-c { }
no_labels : IsOpening Root [] (codes "a@1") (mute (Word (codes "a@1")) 0 ∷ telling Open 1 (Opens Root (codes "a@1") 0 []) ∷ mute Close 2 ∷ []) (mute Close 2 ∷ [])
no_labels = grammar.name _ _ _ _ _ says says

two_labels : IsOpening (Labelled (codes "l")) [] (codes "b-c") (mute (Word (codes "x")) 0 ∷ mute Colon 1 ∷ mute (Word (codes "y")) 2 ∷ mute Colon 3 ∷ mute (Word (codes "b-c")) 4 ∷ telling Open 5 (Opens (Labelled (codes "l")) (codes "b-c") 4 (label (codes "x") 0 ∷ label (codes "y") 2 ∷ [])) ∷ mute Close 6 ∷ []) (mute Close 6 ∷ [])
unfolding is_label is_label_start has
two_labels = grammar.label _ _ _ _ _ _ _ says refl says (grammar.label _ _ _ _ _ _ _ says refl says (grammar.name _ _ _ _ _ says says))

-- };   f; };   p = "t"; };   a { }; };   each in the root's body
no_members : AreMembers Root (mute Close 0 ∷ mute Semicolon 1 ∷ []) (mute Semicolon 1 ∷ [])
no_members = grammar.end _ _ _ says

one_flag : AreMembers Root (mute (Word (codes "f")) 0 ∷ telling Semicolon 1 (Sets Root (codes "f") []) ∷ mute Close 2 ∷ mute Semicolon 3 ∷ []) (mute Semicolon 3 ∷ [])
unfolding may_name_property
one_flag = grammar.flag _ _ _ _ _ _ says refl says (grammar.end _ _ _ says)

one_property : AreMembers Root (mute (Word (codes "p")) 0 ∷ mute Equals 1 ∷ mute (String (codes "t")) 2 ∷ telling Semicolon 3 (Sets Root (codes "p") (Text (codes "t") ∷ [])) ∷ mute Close 4 ∷ mute Semicolon 5 ∷ []) (mute Semicolon 5 ∷ [])
unfolding may_name_property
one_property = grammar.property _ _ _ _ _ _ _ says refl says (grammar.last _ _ _ _ _ (grammar.text _ _ _ says) says) (grammar.end _ _ _ says)

one_node : AreMembers Root (mute (Word (codes "a")) 0 ∷ telling Open 1 (Opens Root (codes "a") 0 []) ∷ mute Close 2 ∷ mute Semicolon 3 ∷ mute Close 4 ∷ mute Semicolon 5 ∷ []) (mute Semicolon 5 ∷ [])
one_node = grammar.node _ _ _ _ _ _ _ (grammar.name _ _ _ _ _ says says) (grammar.end _ _ _ says) says (grammar.end _ _ _ says)

-- x: a { p = <1>, "t"; f; };   from token 4 on, with the root's } behind
abbrev inside_a : List Told → List Told
inside_a rest =
    mute (Word (codes "p")) 8
    ∷ mute Equals 9
    ∷ mute Less 10
    ∷ mute (Number 1) 11
    ∷ mute Greater 12
    ∷ mute Comma 13
    ∷ mute (String (codes "t")) 14
    ∷ telling Semicolon 15 (Sets (Child Root (codes "a")) (codes "p") (Cells (cell.Num 1 ∷ []) ∷ Text (codes "t") ∷ []))
    ∷ mute (Word (codes "f")) 16
    ∷ telling Semicolon 17 (Sets (Child Root (codes "a")) (codes "f") [])
    ∷ mute Close 18
    ∷ rest

members_of_a : (rest : List Told) → AreMembers (Child Root (codes "a")) (inside_a rest) rest
unfolding may_name_property
members_of_a rest =
    grammar.property _ _ _ _ _ _ _ says refl says (grammar.more _ _ _ _ _ _ (grammar.cells _ _ _ _ says (grammar.number _ _ _ _ _ says (grammar.end _ _ says))) says (grammar.last _ _ _ _ _ (grammar.text _ _ _ says) says))
    (grammar.flag _ _ _ _ _ _ says refl says (grammar.end _ _ _ says))

abbrev inside_root : List Told → List Told
inside_root rest = mute (Word (codes "x")) 4 ∷ mute Colon 5 ∷ mute (Word (codes "a")) 6 ∷ telling Open 7 (Opens Root (codes "a") 6 (label (codes "x") 4 ∷ [])) ∷ inside_a (mute Semicolon 19 ∷ mute Close 20 ∷ rest)

members_of_root : (rest : List Told) → AreMembers Root (inside_root rest) rest
unfolding is_label is_label_start has
members_of_root rest = grammar.node _ _ _ _ _ _ _ (grammar.label _ _ _ _ _ _ _ says refl says (grammar.name _ _ _ _ _ says says)) (members_of_a _) says (grammar.end _ _ _ says)

-- q = [0aFF], &y; }   from token 24 on, added to x
abbrev inside_x : List Told → List Told
inside_x rest =
    mute (Word (codes "q")) 24
    ∷ mute Equals 25
    ∷ mute Left 26
    ∷ mute (Word (codes "0aFF")) 27
    ∷ mute Right 28
    ∷ mute Comma 29
    ∷ mute (Ref (codes "y")) 30
    ∷ telling Semicolon 31 (Sets (Labelled (codes "x")) (codes "q") (Bytes (10 ∷ 255 ∷ []) ∷ Whole (label (codes "y") 30) ∷ []))
    ∷ mute Close 32
    ∷ rest

members_of_x : (rest : List Told) → AreMembers (Labelled (codes "x")) (inside_x rest) rest
unfolding may_name_property is_bytes
members_of_x rest =
    grammar.property _ _ _ _ _ _ _ says refl says (grammar.more _ _ _ _ _ _ (grammar.bytes _ _ _ _ says (grammar.word (codes "0aFF") [] _ _ _ says refl (grammar.end _ _ says))) says (grammar.last _ _ _ _ _ (grammar.ref _ _ _ says) says))
    (grammar.end _ _ _ says)

-- /dts-v1/; / { and the members of the root }; &x { and the members that are added };
abbrev pub whole_file : List Told
whole_file =
    mute Version 0
    ∷ mute Semicolon 1
    ∷ mute Slash 2
    ∷ telling Open 3 (OpensRoot 2)
    ∷ inside_root (mute Semicolon 21 ∷ telling (Ref (codes "x")) 22 (Adds (label (codes "x") 22)) ∷ mute Open 23 ∷ inside_x (mute Semicolon 33 ∷ []))

pub is_file : IsFile whole_file
is_file = grammar.file _ _ _ says says (grammar.root _ _ _ _ _ says says (members_of_root _) says (grammar.add _ _ _ _ _ _ says says (members_of_x _) says grammar.none))

no_items : AreItems []
no_items = grammar.none

file_without_items : IsFile (mute Version 0 ∷ mute Semicolon 8 ∷ [])
file_without_items = grammar.file _ _ _ says says grammar.none
