-- What settings and faults of the grammar come to, worked out by hand.
use Rattle.std.specs.Prelude.{◌≡◌, [], ◌∷◌, true, false, Some, None, Ok, Err, codes}
use Rattle.std.proofs.Common.{refl}
use Rattle.dts_tree.specs.declared.fault.TreeFault.TheVariants.{Syntax, NoLabel, TwoLabels, NotSupported}
use Rattle.dts_tree.specs.declared.value.Cell.TheVariants as cell
use Rattle.dts_tree.specs.Value.{Cells, Text, Bytes, Whole}
use Rattle.dts_tree.specs.Setting.{Root, Labelled, Child, OpensRoot, Opens, Adds, Sets}
use Rattle.dts_tree.specs.Content.{Content, nothing, with_settings}
use Rattle.dts_tree.specs.Order.{below, children_from}
use Rattle.dts_tree.specs.Tree.{tree_of}
use Rattle.dts_tree.specs.Outcome.{labels_in_cell, labels_in_part, labels_in, is_unknown, unless_unknown, concluded, outcome_of}
use Rattle.dts_tree.proofs.WorkedContents.{label, node}
use Rattle.dts_tree.proofs.WorkedTrees.{property, tree_node}

-- labels in cells, parts and settings
in_number : labels_in_cell (cell.Num 1) ≡ []
in_number = refl

in_reference : labels_in_cell (cell.Node (label (codes "x") 5)) ≡ label (codes "x") 5 ∷ []
in_reference = refl

in_cells : labels_in_part (Cells (cell.Node (label (codes "x") 5) ∷ cell.Num 1 ∷ cell.Node (label (codes "y") 9) ∷ [])) ≡ label (codes "x") 5 ∷ label (codes "y") 9 ∷ []
in_cells = refl

in_text : labels_in_part (Text (codes "x")) ≡ []
in_text = refl

in_bytes : labels_in_part (Bytes (1 ∷ [])) ≡ []
in_bytes = refl

in_whole : labels_in_part (Whole (label (codes "x") 5)) ≡ label (codes "x") 5 ∷ []
in_whole = refl

in_root : labels_in (OpensRoot 1) ≡ []
in_root = refl

in_opening : labels_in (Opens Root (codes "a") 5 (label (codes "x") 2 ∷ [])) ≡ []
in_opening = refl

in_addition : labels_in (Adds (label (codes "x") 2)) ≡ []
in_addition = refl

in_property : labels_in (Sets Root (codes "p") (Whole (label (codes "x") 5) ∷ Text (codes "t") ∷ Cells (cell.Node (label (codes "y") 9) ∷ []) ∷ [])) ≡ label (codes "x") 5 ∷ label (codes "y") 9 ∷ []
in_property = refl

-- a content with the label x at its node a
abbrev content : Content
content = record { root_at = Some 2; children = ((0, codes "a"), node 7 1) ∷ []; labels = ((0, codes "x"), 1) ∷ []; properties = [] }

known_label : is_unknown content (label (codes "x") 5) ≡ false
known_label = refl

unknown_label : is_unknown content (label (codes "y") 5) ≡ true
unknown_label = refl

all_known : unless_unknown content None ≡ Ok (tree_node [] None 2 [] ∷ tree_node (codes "a") (Some 0) 7 [] ∷ [])
unfolding tree_of below children_from
all_known = refl

one_unknown : unless_unknown content (Some (label (codes "y") 5)) ≡ Err (NoLabel 5)
one_unknown = refl

-- a fault of the grammar comes before an unknown label
fault_first : concluded (Sets Root (codes "p") (Whole (label (codes "y") 5) ∷ []) ∷ []) (Some (Syntax 9)) content ≡ Err (Syntax 9)
fault_first = refl

unsupported_first : concluded [] (Some (NotSupported 9 12)) content ≡ Err (NotSupported 9 12)
unsupported_first = refl

no_fault : concluded (Sets Root (codes "p") (Whole (label (codes "x") 5) ∷ []) ∷ []) None content ≡ Ok (tree_node [] None 2 [] ∷ tree_node (codes "a") (Some 0) 7 [] ∷ [])
unfolding tree_of below children_from
no_fault = refl

first_unknown : concluded (Sets Root (codes "p") (Whole (label (codes "x") 5) ∷ []) ∷ Sets Root (codes "q") (Cells (cell.Node (label (codes "z") 9) ∷ cell.Node (label (codes "y") 12) ∷ []) ∷ []) ∷ []) None content ≡ Err (NoLabel 9)
first_unknown = refl

-- a fault of a setting comes before one of the grammar behind it
setting_first : outcome_of (Adds (label (codes "w") 12) ∷ []) (Some (Syntax 15)) ≡ Err (NoLabel 12)
unfolding nothing with_settings
setting_first = refl

-- and before an unknown label in a value before it
setting_before_unknown : outcome_of (Sets Root (codes "p") (Whole (label (codes "y") 5) ∷ []) ∷ Adds (label (codes "w") 12) ∷ []) None ≡ Err (NoLabel 12)
unfolding nothing with_settings
setting_before_unknown = refl

grammar_alone : outcome_of (OpensRoot 2 ∷ []) (Some (Syntax 15)) ≡ Err (Syntax 15)
unfolding nothing with_settings
grammar_alone = refl

-- an unknown label counts also in a value that another has taken the place of
unknown_overwritten : outcome_of (Sets Root (codes "p") (Whole (label (codes "y") 5) ∷ []) ∷ Sets Root (codes "p") [] ∷ []) None ≡ Err (NoLabel 5)
unfolding nothing with_settings
unknown_overwritten = refl

-- a reference may stand before its label; of a property the last value counts
whole :
    outcome_of
    (OpensRoot 2
    ∷ Sets Root (codes "p") (Whole (label (codes "x") 5) ∷ [])
    ∷ Opens Root (codes "a") 20 []
    ∷ Opens (Child Root (codes "a")) (codes "c") 25 []
    ∷ Opens Root (codes "b") 30 (label (codes "x") 27 ∷ [])
    ∷ Sets (Child Root (codes "b")) (codes "q") []
    ∷ Sets (Labelled (codes "x")) (codes "q") (Text (codes "t") ∷ [])
    ∷ [])
    None
    ≡ Ok
    (tree_node [] None 2 (property (codes "p") (Whole 3 ∷ []) ∷ [])
    ∷ tree_node (codes "a") (Some 0) 20 []
    ∷ tree_node (codes "c") (Some 1) 25 []
    ∷ tree_node (codes "b") (Some 0) 30 (property (codes "q") (Text (codes "t") ∷ []) ∷ [])
    ∷ [])
unfolding nothing with_settings tree_of below children_from
whole = refl

no_settings : outcome_of [] None ≡ Ok (tree_node [] None 0 [] ∷ [])
unfolding nothing with_settings tree_of below children_from
no_settings = refl

-- of two settings that are wrong the first counts
first_of_two_faults : outcome_of (Opens Root (codes "a") 20 (label (codes "x") 17 ∷ []) ∷ Opens Root (codes "b") 30 (label (codes "x") 27 ∷ []) ∷ Adds (label (codes "w") 40) ∷ []) (Some (Syntax 50)) ≡ Err (TwoLabels 27)
unfolding nothing with_settings
first_of_two_faults = refl
