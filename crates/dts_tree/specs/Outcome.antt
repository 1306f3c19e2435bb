-- The outcome of a text: its tree, or its first fault.
use Rattle.std.specs.Prelude.{◌≡◌, ℕ, List, [], ◌∷◌, Bool, not, is_some, Option, Some, None, Result, Ok, Err}
use Rattle.std.specs.List.{flat_map, find}
use Rattle.dts_lex.specs.declared.token.Token.{Token}
use Rattle.dts_tree.specs.declared.fault.TreeFault.{TreeFault}
use Rattle.dts_tree.specs.declared.fault.TreeFault.TheVariants.{NoLabel}
use Rattle.dts_tree.specs.declared.value.Cell.{Cell}
use Rattle.dts_tree.specs.declared.value.Cell.TheVariants as cell
use Rattle.dts_tree.specs.Value.{Part, Cells, Text, Bytes, Whole}
use Rattle.dts_tree.specs.Setting.{Label, Setting, OpensRoot, Opens, Adds, Sets}
use Rattle.dts_tree.specs.Content.{Content, nothing, node_of, with_settings, unless_fault}
use Rattle.dts_tree.specs.Outline.{IsOutline}
use Rattle.dts_tree.specs.Tree.{Node, tree_of}

abbrev pub labels_in_cell : Cell Label → List Label
labels_in_cell (cell.Num n) = []
labels_in_cell (cell.Node label) = label ∷ []

abbrev pub labels_in_part : Part Label → List Label
labels_in_part (Cells cells) = flat_map labels_in_cell cells
labels_in_part (Text bytes) = []
labels_in_part (Bytes bytes) = []
labels_in_part (Whole label) = label ∷ []

abbrev pub labels_in : Setting → List Label
labels_in (OpensRoot at) = []
labels_in (Opens path name at ls) = []
labels_in (Adds label) = []
labels_in (Sets path name parts) = flat_map labels_in_part parts

-- a label that no node has
abbrev pub is_unknown : Content → Label → Bool
is_unknown c l = not (is_some (node_of c.labels l.name))

-- the tree, unless one of these labels is unknown
abbrev pub unless_unknown : Content → Option Label → Result (List Node) TreeFault
unless_unknown c None = Ok (tree_of c)
unless_unknown c (Some label) = Err (NoLabel label.at)

-- where no setting is wrong: the fault of the grammar, and without one the first label in a value, also
-- in one that another has taken the place of, that no node of the text has
abbrev pub concluded : List Setting → Option TreeFault → Content → Result (List Node) TreeFault
concluded settings (Some fault) c = Err fault
concluded settings None c = unless_unknown c (find (is_unknown c) (flat_map labels_in settings))

-- the first setting that is wrong comes before the fault of the grammar behind it
abbrev pub outcome_of : List Setting → Option TreeFault → Result (List Node) TreeFault
outcome_of settings fault = unless_fault (concluded settings fault) (with_settings nothing settings)

-- the outcome of a text with these tokens
abbrev pub IsOutcome : List ℕ → List Token → Result (List Node) TreeFault → Type 0
IsOutcome text tokens outcome =
    (settings : List Setting) × (fault : Option TreeFault) × IsOutline text tokens settings fault × (outcome_of settings fault ≡ outcome)
