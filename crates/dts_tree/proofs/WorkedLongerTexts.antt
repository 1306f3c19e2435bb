-- The outlines and outcomes of longer texts, and which aren't theirs, worked out by hand.
use Rattle.std.specs.Prelude.{ℕ, List, [], ◌∷◌, ◌++◌, Option, Some, None, Ok, Err, codes}
use Rattle.std.proofs.Common.{refl, inl, inr}
use Rattle.dts_lex.specs.declared.token.Kind.TheVariants as kind
use Rattle.dts_lex.specs.declared.token.Token.{Token}
use Rattle.dts_lex.specs.Bytes.{is_label_start}
use Rattle.dts_lex.specs.Class.{has, is_label}
use Rattle.dts_tree.specs.declared.fault.TreeFault.{TreeFault}
use Rattle.dts_tree.specs.declared.fault.TreeFault.TheVariants.{Syntax, NotSupported, NoLabel}
use Rattle.dts_tree.specs.declared.value.Cell.TheVariants as cell
use Rattle.dts_tree.specs.Value.{Cells}
use Rattle.dts_tree.specs.Setting.{Root, Labelled, Child, Setting, OpensRoot, Opens, Adds, Sets}
use Rattle.dts_tree.specs.Lexeme.{may_name_property, is_bytes}
use Rattle.dts_tree.specs.Content.{nothing, with_settings}
use Rattle.dts_tree.specs.Order.{below, children_from}
use Rattle.dts_tree.specs.Tree.{Node, tree_of}
use Rattle.dts_tree.specs.Outline.{Tell, Breaks, EndsEarly, IsOutline}
use Rattle.dts_tree.specs.Outcome.{IsOutcome}
use Rattle.dts_tree.specs.Inside.Run.{Run, run}
use Rattle.dts_tree.specs.Inside.State.{Start, move}
use Rattle.dts_tree.proofs.OutlineLemmas.{outline_run}
use Rattle.dts_tree.proofs.UniqueLemmas.{one_outline, same_outcome}
use Rattle.dts_tree.proofs.WorkedContents.{label}
use Rattle.dts_tree.proofs.WorkedLexemes.{token, reading}
use Rattle.dts_tree.proofs.WorkedOutlines.{naming}
use Rattle.dts_tree.proofs.WorkedTexts.{short, short_text}
use Rattle.dts_tree.proofs.WorkedTrees.{property, tree_node}

-- the run over a text, with all that it computes
unfoldable running : List ℕ → List Token → Run
unfolding reading naming run move is_label is_label_start has may_name_property is_bytes
running text tokens = run text Start tokens

version_alone : IsOutline (codes "/dts-v1/") (token kind.Directive 0 8 ∷ []) [] (Some (Syntax 8))
unfolding running
version_alone = outline_run (codes "/dts-v1/") (token kind.Directive 0 8 ∷ [])

no_version : IsOutline (codes "a") (token kind.Word 0 1 ∷ []) [] (Some (Syntax 0))
unfolding running
no_version = outline_run (codes "a") (token kind.Word 0 1 ∷ [])

version_again : IsOutline (codes "/dts-v1/;/dts-v1/;") (short ++ token kind.Directive 9 17 ∷ token kind.Sign 17 18 ∷ []) [] (Some (NotSupported 9 17))
unfolding running
version_again = outline_run (codes "/dts-v1/;/dts-v1/;") (short ++ token kind.Directive 9 17 ∷ token kind.Sign 17 18 ∷ [])

-- a whole text with a label, and a reference to it
abbrev pub labelled : List ℕ
labelled = codes "/dts-v1/;/{x:a{p=<1 &x>;};};"

abbrev pub labelled_tokens : List Token
labelled_tokens =
    short
    ++ token kind.Sign 9 10
    ∷ token kind.Sign 10 11
    ∷ token kind.Word 11 12
    ∷ token kind.Sign 12 13
    ∷ token kind.Word 13 14
    ∷ token kind.Sign 14 15
    ∷ token kind.Word 15 16
    ∷ token kind.Sign 16 17
    ∷ token kind.Sign 17 18
    ∷ token kind.Number 18 19
    ∷ token kind.Ref 20 22
    ∷ token kind.Sign 22 23
    ∷ token kind.Sign 23 24
    ∷ token kind.Sign 24 25
    ∷ token kind.Sign 25 26
    ∷ token kind.Sign 26 27
    ∷ token kind.Sign 27 28
    ∷ []

abbrev labelled_settings : List Setting
labelled_settings =
    OpensRoot 9
    ∷ Opens Root (codes "a") 13 (label (codes "x") 11 ∷ [])
    ∷ Sets (Child Root (codes "a")) (codes "p") (Cells (cell.Num 1 ∷ cell.Node (label (codes "x") 20) ∷ []) ∷ [])
    ∷ []

labelled_outline : IsOutline labelled labelled_tokens labelled_settings None
unfolding running
labelled_outline = outline_run labelled labelled_tokens

-- a bracket among cells
abbrev bracket : List ℕ
bracket = codes "/dts-v1/;/{p=<1];};"

abbrev bracket_tokens : List Token
bracket_tokens =
    short
    ++ token kind.Sign 9 10
    ∷ token kind.Sign 10 11
    ∷ token kind.Word 11 12
    ∷ token kind.Sign 12 13
    ∷ token kind.Sign 13 14
    ∷ token kind.Number 14 15
    ∷ token kind.Sign 15 16
    ∷ token kind.Sign 16 17
    ∷ token kind.Sign 17 18
    ∷ token kind.Sign 18 19
    ∷ []

bracket_outline : IsOutline bracket bracket_tokens (OpensRoot 9 ∷ []) (Some (Syntax 15))
unfolding running
bracket_outline = outline_run bracket bracket_tokens

-- a body that isn't closed
abbrev unclosed_tokens : List Token
unclosed_tokens = short ++ token kind.Ref 9 11 ∷ token kind.Sign 11 12 ∷ token kind.Word 12 13 ∷ token kind.Sign 13 14 ∷ []

unclosed : IsOutline (codes "/dts-v1/;&x{f;") unclosed_tokens (Adds (label (codes "x") 9) ∷ Sets (Labelled (codes "x")) (codes "f") [] ∷ []) (Some (Syntax 14))
unfolding running
unclosed = outline_run (codes "/dts-v1/;&x{f;") unclosed_tokens

-- a parenthesis in the place of a semicolon
parenthesis : IsOutline (codes "/dts-v1/;/{f;}(") (short ++ token kind.Sign 9 10 ∷ token kind.Sign 10 11 ∷ token kind.Word 11 12 ∷ token kind.Sign 12 13 ∷ token kind.Sign 13 14 ∷ token kind.Sign 14 15 ∷ []) (OpensRoot 9 ∷ Sets Root (codes "f") [] ∷ []) (Some (NotSupported 14 15))
unfolding running
parenthesis = outline_run (codes "/dts-v1/;/{f;}(") (short ++ token kind.Sign 9 10 ∷ token kind.Sign 10 11 ∷ token kind.Word 11 12 ∷ token kind.Sign 12 13 ∷ token kind.Sign 13 14 ∷ token kind.Sign 14 15 ∷ [])

-- three digits of bytes; a property with an at sign; a label with a dash: each fault at its token
odd_bytes : IsOutline (codes "/dts-v1/;/{p=[0aF];") (short ++ token kind.Sign 9 10 ∷ token kind.Sign 10 11 ∷ token kind.Word 11 12 ∷ token kind.Sign 12 13 ∷ token kind.Sign 13 14 ∷ token kind.Word 14 17 ∷ token kind.Sign 17 18 ∷ token kind.Sign 18 19 ∷ []) (OpensRoot 9 ∷ []) (Some (Syntax 14))
unfolding running
odd_bytes = outline_run (codes "/dts-v1/;/{p=[0aF];") (short ++ token kind.Sign 9 10 ∷ token kind.Sign 10 11 ∷ token kind.Word 11 12 ∷ token kind.Sign 12 13 ∷ token kind.Sign 13 14 ∷ token kind.Word 14 17 ∷ token kind.Sign 17 18 ∷ token kind.Sign 18 19 ∷ [])

property_with_at : IsOutline (codes "/dts-v1/;/{a@1;") (short ++ token kind.Sign 9 10 ∷ token kind.Sign 10 11 ∷ token kind.Word 11 14 ∷ token kind.Sign 14 15 ∷ []) (OpensRoot 9 ∷ []) (Some (Syntax 14))
unfolding running
property_with_at = outline_run (codes "/dts-v1/;/{a@1;") (short ++ token kind.Sign 9 10 ∷ token kind.Sign 10 11 ∷ token kind.Word 11 14 ∷ token kind.Sign 14 15 ∷ [])

label_with_dash : IsOutline (codes "/dts-v1/;/{x-y:a{") (short ++ token kind.Sign 9 10 ∷ token kind.Sign 10 11 ∷ token kind.Word 11 14 ∷ token kind.Sign 14 15 ∷ token kind.Word 15 16 ∷ token kind.Sign 16 17 ∷ []) (OpensRoot 9 ∷ []) (Some (Syntax 14))
unfolding running
label_with_dash = outline_run (codes "/dts-v1/;/{x-y:a{") (short ++ token kind.Sign 9 10 ∷ token kind.Sign 10 11 ∷ token kind.Word 11 14 ∷ token kind.Sign 14 15 ∷ token kind.Word 15 16 ∷ token kind.Sign 16 17 ∷ [])

-- a whole text has no fault, and sets nothing else
short_has_no_break : (settings : List Setting) (fault : TreeFault) → ¬ Breaks (codes "/dts-v1/;") short settings fault
short_has_no_break settings fault breaks = let one = one_outline (codes "/dts-v1/;") short [] settings None (Some fault) short_text (inl breaks) in let e = one.1 in cc

short_has_no_end : (settings : List Setting) (fault : TreeFault) → ¬ EndsEarly (codes "/dts-v1/;") short settings fault
short_has_no_end settings fault ends = let one = one_outline (codes "/dts-v1/;") short [] settings None (Some fault) short_text (inr ends) in let e = one.1 in cc

sets_no_less : ¬ Tell labelled labelled_tokens (OpensRoot 9 ∷ [])
sets_no_less tells = let one = one_outline labelled labelled_tokens labelled_settings (OpensRoot 9 ∷ []) None None labelled_outline (tells, labelled_outline.1) in let e = one.0 in cc

-- a text with a fault has that alone: it is no text, its fault is at no other place, nor at its end
bracket_is_no_text : (settings : List Setting) → ¬ IsOutline bracket bracket_tokens settings None
bracket_is_no_text settings is = let one = one_outline bracket bracket_tokens (OpensRoot 9 ∷ []) settings (Some (Syntax 15)) None bracket_outline is in let e = one.1 in cc

bracket_at_another : (settings : List Setting) → ¬ IsOutline bracket bracket_tokens settings (Some (Syntax 14))
bracket_at_another settings is = let one = one_outline bracket bracket_tokens (OpensRoot 9 ∷ []) settings (Some (Syntax 15)) (Some (Syntax 14)) bracket_outline is in let e = one.1 in cc

bracket_sets_no_more : (fault : Option TreeFault) → ¬ IsOutline bracket bracket_tokens (OpensRoot 9 ∷ Sets Root (codes "p") (Cells (cell.Num 1 ∷ []) ∷ []) ∷ []) fault
bracket_sets_no_more fault is = let one = one_outline bracket bracket_tokens (OpensRoot 9 ∷ []) _ (Some (Syntax 15)) fault bracket_outline is in let e = one.0 in cc

bracket_does_not_end : (settings : List Setting) → ¬ EndsEarly bracket bracket_tokens settings (Syntax 19)
bracket_does_not_end settings ends = let one = one_outline bracket bracket_tokens (OpensRoot 9 ∷ []) settings (Some (Syntax 15)) (Some (Syntax 19)) bracket_outline (inr ends) in let e = one.1 in cc

unclosed_at_another : (settings : List Setting) → ¬ IsOutline (codes "/dts-v1/;&x{f;") unclosed_tokens settings (Some (Syntax 13))
unclosed_at_another settings is = let one = one_outline _ unclosed_tokens _ settings (Some (Syntax 14)) (Some (Syntax 13)) unclosed is in let e = one.1 in cc

-- outcomes
short_outcome : IsOutcome (codes "/dts-v1/;") short (Ok (tree_node [] None 0 [] ∷ []))
unfolding nothing with_settings tree_of below children_from
short_outcome = ([], None, short_text, refl)

abbrev pub labelled_nodes : List Node
labelled_nodes = tree_node [] None 9 [] ∷ tree_node (codes "a") (Some 0) 13 (property (codes "p") (Cells (cell.Num 1 ∷ cell.Node 1 ∷ []) ∷ []) ∷ []) ∷ []

pub labelled_outcome : IsOutcome labelled labelled_tokens (Ok labelled_nodes)
unfolding nothing with_settings tree_of below children_from
labelled_outcome = (labelled_settings, None, labelled_outline, refl)

bracket_outcome : IsOutcome bracket bracket_tokens (Err (Syntax 15))
unfolding nothing with_settings
bracket_outcome = (OpensRoot 9 ∷ [], Some (Syntax 15), bracket_outline, refl)

-- there is no label x before its addition, which comes before the end of the text
unclosed_outcome : IsOutcome (codes "/dts-v1/;&x{f;") unclosed_tokens (Err (NoLabel 9))
unfolding nothing with_settings
unclosed_outcome = (Adds (label (codes "x") 9) ∷ Sets (Labelled (codes "x")) (codes "f") [] ∷ [], Some (Syntax 14), unclosed, refl)

unclosed_otherwise : ¬ IsOutcome (codes "/dts-v1/;&x{f;") unclosed_tokens (Err (Syntax 14))
unclosed_otherwise is = let same = same_outcome _ unclosed_tokens (Err (NoLabel 9)) (Err (Syntax 14)) unclosed_outcome is in cc

short_without_root : ¬ IsOutcome (codes "/dts-v1/;") short (Ok [])
short_without_root is = let same = same_outcome _ short (Ok (tree_node [] None 0 [] ∷ [])) (Ok []) short_outcome is in cc
