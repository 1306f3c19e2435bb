-- What the laws say of single texts and settings, where they hold.
use Rattle.std.specs.Prelude.{◌≡◌, ℕ, List, [], ◌∷◌, Some, Result, Ok, codes}
use Rattle.std.specs.Map.{lookup}
use Rattle.std.proofs.Common.{refl, sym, ◌∙◌}
use Rattle.name_map.specs.NameEntries.{same_name}
use Rattle.dts_tree.specs.declared.fault.TreeFault.{TreeFault}
use Rattle.dts_tree.specs.Value.{Part, Text, Bytes}
use Rattle.dts_tree.specs.Setting.{Label, Root, Labelled, Setting, OpensRoot, Sets}
use Rattle.dts_tree.specs.Content.{Content, with_settings}
use Rattle.dts_tree.specs.Tree.{Node}
use Rattle.dts_tree.specs.Outcome.{IsOutcome}
use Rattle.dts_tree.specs.Laws.{OneOutcome, IsTree, TreesAreTrees, AllSetOther, LastSettingCounts}
use Rattle.dts_tree.proofs.WorkedContents.{some_content}
use Rattle.dts_tree.proofs.WorkedLongerTexts.{labelled, labelled_tokens, labelled_nodes, labelled_outcome}

-- a text with a tree has that alone
only_tree : OneOutcome → (other : Result (List Node) TreeFault) → IsOutcome labelled labelled_tokens other → other ≡ Ok labelled_nodes
only_tree law other is =
    let one = law labelled labelled_tokens in
    one.1.1 other is ∙ sym (one.1.1 (Ok labelled_nodes) labelled_outcome)

some_outcome : OneOutcome → (text : List ℕ) → (outcome : Result (List Node) TreeFault) × IsOutcome text [] outcome
some_outcome law text = let one = law text [] in (one.0, one.1.0)

tree : TreesAreTrees → IsTree labelled_nodes
tree law = law labelled labelled_tokens labelled_nodes labelled_outcome

-- p of a (1) is set, and then another property of a and the root's p
abbrev set : List (Part Label)
set = Text (codes "t") ∷ Bytes [] ∷ []

abbrev others : List Setting
others = Sets (Labelled (codes "x")) (codes "q") [] ∷ OpensRoot 60 ∷ Sets Root (codes "p") [] ∷ []

abbrev with_set : Content
with_set = record some_content { properties = ((2, codes "p"), Text (codes "t") ∷ []) ∷ ((1, codes "p"), set) ∷ [] }

all_others : AllSetOther (1, codes "p") with_set others
all_others = (refl, λ a is_a. (tt, λ b is_b. (refl, λ c is_c. tt)))

still_set : LastSettingCounts → (e : Content) → with_settings with_set others ≡ Ok e → lookup (same_name (1, codes "p")) e.properties ≡ Some set
still_set law e is = law some_content with_set e (Labelled (codes "x")) (codes "p") set others refl is all_others
