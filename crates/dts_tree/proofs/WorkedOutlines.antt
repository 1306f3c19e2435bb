-- What tiny texts set and where they leave the grammar, worked out by hand.
use Rattle.std.specs.Prelude.{◌≡◌, ℕ, List, [], ◌∷◌, true, false, Some, None, codes}
use Rattle.std.proofs.Common.{refl}
use Rattle.dts_lex.specs.declared.token.Kind.TheVariants as kind
use Rattle.dts_lex.specs.declared.token.Token.{Token}
use Rattle.dts_lex.specs.Bytes.{is_blank}
use Rattle.dts_lex.specs.Piece.{is_version, is_preprocessor}
use Rattle.dts_lex.specs.Scan.{begins_line}
use Rattle.dts_tree.specs.declared.fault.TreeFault.{TreeFault}
use Rattle.dts_tree.specs.declared.fault.TreeFault.TheVariants.{Syntax, NotSupported}
use Rattle.dts_tree.specs.declared.value.Cell.TheVariants as cell
use Rattle.dts_tree.specs.Value.{Cells, Text, Bytes, Whole}
use Rattle.dts_tree.specs.Setting.{Root, Labelled, Child, Setting, OpensRoot, Opens, Adds, Sets}
use Rattle.dts_tree.specs.Lexeme.{Version, Semicolon, Colon, Word}
use Rattle.dts_tree.specs.Outline.{Reads, list_of, set_by, is_directive, fault_of}
use Rattle.dts_tree.proofs.WorkedContents.{label}
use Rattle.dts_tree.proofs.WorkedGrammar.{mute, telling, whole_file}
use Rattle.dts_tree.proofs.WorkedLexemes.{token, reading}

-- a text and its tokens as the grammar sees them
version_read : Reads (codes "/dts-v1/;") (token kind.Directive 0 8 ∷ token kind.Sign 8 9 ∷ []) (mute Version 0 ∷ mute Semicolon 8 ∷ [])
unfolding reading
version_read = (refl, refl, (refl, refl, tt))

-- what tokens set doesn't matter to their reading
telling_read : (s : Setting) → Reads (codes "ab :") (token kind.Word 0 2 ∷ token kind.Sign 3 4 ∷ []) (telling (Word (codes "ab")) 0 s ∷ mute Colon 3 ∷ [])
unfolding reading
telling_read s = (refl, refl, (refl, refl, tt))

nothing_read : Reads [] [] []
nothing_read = tt

one_too_few : ¬ Reads (codes ";") (token kind.Sign 0 1 ∷ []) []
one_too_few h = h

one_too_many : ¬ Reads (codes ";") (token kind.Sign 0 1 ∷ []) (mute Semicolon 0 ∷ mute Semicolon 1 ∷ [])
one_too_many h = h.2

read_elsewhere : ¬ Reads (codes ";") (token kind.Sign 0 1 ∷ []) (mute Semicolon 1 ∷ [])
read_elsewhere h = let e = h.1 in cc

read_otherwise : ¬ Reads (codes ";") (token kind.Sign 0 1 ∷ []) (mute Colon 0 ∷ [])
unfolding reading
read_otherwise h = let e : Colon ≡ Semicolon = h.0 in cc

-- what tokens set
listed : list_of (Some (OpensRoot 3)) ≡ OpensRoot 3 ∷ []
listed = refl

not_listed : list_of {X = Setting} None ≡ []
not_listed = refl

nothing_set : set_by [] ≡ []
nothing_set = refl

whole_file_sets :
    set_by whole_file
    ≡ OpensRoot 2
    ∷ Opens Root (codes "a") 6 (label (codes "x") 4 ∷ [])
    ∷ Sets (Child Root (codes "a")) (codes "p") (Cells (cell.Num 1 ∷ []) ∷ Text (codes "t") ∷ [])
    ∷ Sets (Child Root (codes "a")) (codes "f") []
    ∷ Adds (label (codes "x") 22)
    ∷ Sets (Labelled (codes "x")) (codes "q") (Bytes (10 ∷ 255 ∷ []) ∷ Whole (label (codes "y") 30) ∷ [])
    ∷ []
whole_file_sets = refl

-- the kinds of tokens, and their faults: a directive, /dts-v1/ too, and what lexing ends behind
directive : is_directive kind.Directive ≡ true
directive = refl

word : is_directive kind.Word ≡ false
word = refl

number : is_directive kind.Number ≡ false
number = refl

string : is_directive kind.Text ≡ false
string = refl

reference : is_directive kind.Ref ≡ false
reference = refl

sign : is_directive kind.Sign ≡ false
sign = refl

-- the faults of a text, with all that they compute
unfoldable pub naming : List ℕ → Token → TreeFault
unfolding fault_of is_version is_preprocessor begins_line is_blank
naming text t = fault_of text t

fault_version : fault_of (codes ";/dts-v1/") (token kind.Directive 1 9) ≡ NotSupported 1 9
unfolding naming
fault_version = refl

fault_directive : fault_of (codes "/delete-node/ a;") (token kind.Directive 0 13) ≡ NotSupported 0 13
unfolding naming
fault_directive = refl

fault_parenthesis : fault_of (codes "<(1)>") (token kind.Sign 1 2) ≡ NotSupported 1 2
unfolding naming
fault_parenthesis = refl

fault_preprocessor : fault_of (codes " #include") (token kind.Word 1 9) ≡ NotSupported 1 9
unfolding naming
fault_preprocessor = refl

fault_word : fault_of (codes "a #include") (token kind.Word 2 10) ≡ Syntax 2
unfolding naming
fault_word = refl

fault_sign : fault_of (codes "a;;") (token kind.Sign 2 3) ≡ Syntax 2
unfolding naming
fault_sign = refl

fault_string : fault_of (34 ∷ 34 ∷ []) (token kind.Text 0 2) ≡ Syntax 0
unfolding naming
fault_string = refl

fault_number : fault_of (codes "<7") (token kind.Number 1 2) ≡ Syntax 1
unfolding naming
fault_number = refl

fault_reference : fault_of (codes "a&b") (token kind.Ref 1 3) ≡ Syntax 1
unfolding naming
fault_reference = refl
