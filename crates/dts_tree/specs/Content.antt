-- What settings come to, one after another. The root is node 0, and the others are numbered from 1 on as
-- they are opened first.
use Rattle.std.specs.Prelude.{ℕ, zero, suc, ◌+◌, List, [], ◌∷◌, Bool, false, not, nat_eq, nat_lt, Option, Some, None, Result, Ok, Err, fold, map, slice_index_or, if◌then◌else◌}
use Rattle.std.specs.Option.{option_map, option_eq, option_or}
use Rattle.std.specs.Map.{lookup}
use Rattle.ordered_map.specs.Entries.{insert_entry, place_of}
use Rattle.name_map.specs.NameEntries.{same_name, keep_entry}
use Rattle.dts_tree.specs.declared.fault.TreeFault.{TreeFault}
use Rattle.dts_tree.specs.declared.fault.TreeFault.TheVariants.{NoLabel, TwoLabels, TooDeep}
use Rattle.dts_tree.specs.declared.store.Opened.{Opened}
use Rattle.dts_tree.specs.Value.{Part}
use Rattle.dts_tree.specs.Setting.{Label, Path, Root, Labelled, Child, Setting, OpensRoot, Opens, Adds, Sets}

-- Where the root's first body stands; each other node by its parent and its name, with the place of its
-- name and how deep it is; the node of each label, which has no owner and stands under 0; and the values
-- of properties by node and name.
pub record Content : Type 0 where
  pub root_at : Option ℕ
  pub children : List ((ℕ × List ℕ) × Opened)
  pub labels : List ((ℕ × List ℕ) × ℕ)
  pub properties : List ((ℕ × List ℕ) × List (Part Label))

-- before the text the root alone is there
unfoldable pub nothing : Content
nothing = record { root_at = None; children = []; labels = []; properties = [] }

-- the number of a node's child of a name
abbrev pub child_of : List ((ℕ × List ℕ) × Opened) → ℕ → List ℕ → Option ℕ
child_of children parent name = option_map (λ k. k + 1) (place_of (same_name (parent, name)) children)

-- the node of a label
abbrev pub node_of : List ((ℕ × List ℕ) × ℕ) → List ℕ → Option ℕ
node_of labels name = lookup (same_name (0, name)) labels

abbrev pub or_root : Option ℕ → ℕ
or_root (Some k) = k
or_root None = 0

-- the number of the node of a path
abbrev pub number_at : Content → Path → ℕ
number_at c Root = 0
number_at c (Labelled name) = or_root (node_of c.labels name)
number_at c (Child path name) = or_root (child_of c.children (number_at c path) name)

-- how many levels a node is below the root
abbrev pub depth_of : List ((ℕ × List ℕ) × Opened) → ℕ → ℕ
depth_of children zero = 0
depth_of children (suc k) = slice_index_or (map (λ e. e.1.depth) children) k 0

-- a label stands at another node than this
abbrev pub stands_off : Option ℕ → Option ℕ → Bool
stands_off k None = false
stands_off k (Some other) = not (option_eq nat_eq (Some other) k)

-- the place of the first of these labels that stands at another node
abbrev pub elsewhere : List ((ℕ × List ℕ) × ℕ) → Option ℕ → List Label → Option ℕ
elsewhere labels k [] = None
elsewhere labels k (l ∷ ls) = if stands_off k (node_of labels l.name) then Some l.at else elsewhere labels k ls

-- these labels stand at the node from now on
abbrev pub with_labels : List ((ℕ × List ℕ) × ℕ) → ℕ → List Label → List ((ℕ × List ℕ) × ℕ)
with_labels labels node ls = fold (λ kept l. keep_entry same_name kept (0, l.name) node) labels ls

-- a node's child with these labels is there from now on
abbrev pub with_child : Content → ℕ → List ℕ → ℕ → List Label → Content
with_child c parent name at ls =
    let children = keep_entry same_name c.children (parent, name) (record { at = at; depth = depth_of c.children parent + 1 }) in
    record c { children = children; labels = with_labels c.labels (or_root (child_of children parent name)) ls }

-- no label of a node may stand elsewhere, and no node is more than 32 levels below the root
abbrev pub opened : Content → ℕ → List ℕ → ℕ → List Label → Option ℕ → Result Content TreeFault
opened c parent name at ls (Some place) = Err (TwoLabels place)
opened c parent name at ls None = if nat_lt (depth_of c.children parent) 32 then Ok (with_child c parent name at ls) else Err (TooDeep at)

-- a body may add to the node of a label that stands before it
abbrev pub known : Content → ℕ → Option ℕ → Result Content TreeFault
known c at (Some k) = Ok c
known c at None = Err (NoLabel at)

-- the content with one setting more: an opened node is there once, and keeps the place of its first body;
-- a later value of one node and name takes the place of the earlier one
abbrev pub with_setting : Content → Setting → Result Content TreeFault
with_setting c (OpensRoot at) = Ok (record c { root_at = option_or c.root_at (Some at) })
with_setting c (Opens path name at ls) =
    let parent = number_at c path in
    opened c parent name at ls (elsewhere c.labels (child_of c.children parent name) ls)
with_setting c (Adds label) = known c label.at (node_of c.labels label.name)
with_setting c (Sets path name parts) = Ok (record c { properties = insert_entry same_name c.properties (number_at c path, name) parts })

-- up to the first fault
abbrev pub unless_fault : {X Y : Type 0} → (X → Result Y TreeFault) → Result X TreeFault → Result Y TreeFault
unless_fault others (Ok x) = others x
unless_fault others (Err fault) = Err fault

-- all settings, up to the first that is wrong
unfoldable pub with_settings : Content → List Setting → Result Content TreeFault
with_settings c [] = Ok c
with_settings c (s ∷ ss) = unless_fault (λ next. with_settings next ss) (with_setting c s)
