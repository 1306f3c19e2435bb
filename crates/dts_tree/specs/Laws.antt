-- What a reader of board files expects of outcomes and trees.
use Rattle.std.specs.Prelude.{◌≡◌, ℕ, ◌<◌, List, [], ◌∷◌, Some, None, Result, Ok, false, length, slice_index_or}
use Rattle.std.specs.Map.{lookup}
use Rattle.dts_lex.specs.declared.token.Token.{Token}
use Rattle.name_map.specs.NameEntries.{same_name}
use Rattle.dts_tree.specs.declared.fault.TreeFault.{TreeFault}
use Rattle.dts_tree.specs.Value.{Part, Property}
use Rattle.dts_tree.specs.Setting.{Label, Path, Setting, OpensRoot, Opens, Adds, Sets}
use Rattle.dts_tree.specs.Content.{Content, number_at, with_setting, with_settings}
use Rattle.dts_tree.specs.Outcome.{IsOutcome}
use Rattle.dts_tree.specs.Tree.{Node}
use Rattle.dts_tree.specs.Look.{bare, properties_at}

-- a text with these tokens has one outcome and no other
abbrev pub OneOutcome : Type 0
OneOutcome =
    (text : List ℕ) (tokens : List Token) → (outcome : Result (List Node) TreeFault)
    × (IsOutcome text tokens outcome × ((other : Result (List Node) TreeFault) → IsOutcome text tokens other → other ≡ outcome))

-- a node by its number
abbrev pub node_at : List Node → ℕ → Node
node_at nodes k = slice_index_or nodes k bare

-- The root is there, first, without a name and a parent; each other node has a parent, which stands before
-- it; two children of one parent differ in name; and a node has a property of a name once.
pub record IsTree (nodes : List Node) : Type 0 where
  pub some : 0 < length nodes
  pub root : ((node_at nodes 0).name ≡ []) × ((node_at nodes 0).parent ≡ None)
  pub parents : (k : ℕ) → 0 < k → k < length nodes → (p : ℕ) × (((node_at nodes k).parent ≡ Some p) × (p < k))
  pub siblings : (i j : ℕ) → 0 < i → 0 < j → i < length nodes → j < length nodes → (node_at nodes i).parent ≡ (node_at nodes j).parent → (node_at nodes i).name ≡ (node_at nodes j).name → i ≡ j
  pub once : (k i j : ℕ) → (d : Property ℕ) → i < length (properties_at nodes k) → j < length (properties_at nodes k) → (slice_index_or (properties_at nodes k) i d).name ≡ (slice_index_or (properties_at nodes k) j d).name → i ≡ j

-- each tree of a text is one
abbrev pub TreesAreTrees : Type 0
TreesAreTrees = (text : List ℕ) (tokens : List Token) (nodes : List Node) → IsOutcome text tokens (Ok nodes) → IsTree nodes

-- a setting sets no property of this node and name
abbrev pub SetsOther : ℕ × List ℕ → Content → Setting → Type 0
SetsOther key c (OpensRoot at) = Unit {0}
SetsOther key c (Opens path name at ls) = Unit {0}
SetsOther key c (Adds label) = Unit {0}
SetsOther key c (Sets path name parts) = same_name (number_at c path, name) key ≡ false

-- none of these settings, behind a content, does
abbrev pub AllSetOther : ℕ × List ℕ → Content → List Setting → Type 0
AllSetOther key c [] = Unit {0}
AllSetOther key c (s ∷ ss) = SetsOther key c s × ((next : Content) → with_setting c s ≡ Ok next → AllSetOther key next ss)

-- a property that is set, and not by any setting behind, has that value in the end
abbrev pub LastSettingCounts : Type 0
LastSettingCounts =
    (c d e : Content) (path : Path) (name : List ℕ) (parts : List (Part Label)) (after : List Setting) → with_setting c (Sets path name parts) ≡ Ok d → with_settings d after ≡ Ok e → AllSetOther (number_at c path, name) d after
    → lookup (same_name (number_at c path, name)) e.properties ≡ Some parts
