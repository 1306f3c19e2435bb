-- What callers find in a tree.
use Rattle.std.specs.Prelude.{ℕ, ◌<◌, List, [], ◌∷◌, ◌++◌, Option, Some, None, codes, length, nat_eq, nat_lt, slice_index_or, sum_by, if◌then◌else◌}
use Rattle.std.specs.List.{find, position}
use Rattle.std.specs.Option.{option_map, option_and_then, option_eq}
use Rattle.std.specs.Str.{bytes_eq}
use Rattle.dts_tree.specs.declared.value.Cell.{Cell}
use Rattle.dts_tree.specs.declared.value.Cell.TheVariants as cell
use Rattle.dts_tree.specs.Value.{Part, Cells, Text, Bytes, Whole, Property}
use Rattle.dts_tree.specs.Tree.{Node}

-- a number that no node has stands for this node, which has no name and no properties
abbrev pub bare : Node
bare = record { name = []; parent = None; at = 0; properties = [] }

-- the properties of a node
abbrev pub properties_at : List Node → ℕ → List (Property ℕ)
properties_at nodes node = (slice_index_or nodes node bare).properties

-- a node's property of a name
abbrev pub property_at : List Node → ℕ → List ℕ → Option (Property ℕ)
property_at nodes node name = find (λ p. bytes_eq name p.name) (properties_at nodes node)

-- the cells of parts, all together, where each part is cells
abbrev pub cells_of : List (Part ℕ) → Option (List (Cell ℕ))
cells_of [] = Some []
cells_of (Cells cells ∷ parts) = option_map (λ others. cells ++ others) (cells_of parts)
cells_of (Text bytes ∷ parts) = None
cells_of (Bytes bytes ∷ parts) = None
cells_of (Whole node ∷ parts) = None

-- the strings of parts, where each part is a string
abbrev pub strings_of : List (Part ℕ) → Option (List (List ℕ))
strings_of [] = Some []
strings_of (Text bytes ∷ parts) = option_map (λ others. bytes ∷ others) (strings_of parts)
strings_of (Cells cells ∷ parts) = None
strings_of (Bytes bytes ∷ parts) = None
strings_of (Whole node ∷ parts) = None

-- the number that is the only cell
abbrev pub only_number : List (Cell ℕ) → Option ℕ
only_number [] = None
only_number (cell.Num n ∷ []) = Some n
only_number (cell.Node node ∷ []) = None
only_number (c ∷ d ∷ cells) = None

-- the number by which cells tell a node: its phandle, all parts together, where that is one number
abbrev pub phandle_of : Node → Option ℕ
phandle_of n = option_and_then only_number (option_and_then (λ (p : Property ℕ). cells_of p.parts) (find (λ p. bytes_eq (codes "phandle") p.name) n.properties))

-- the node that a cell stands for: for a number the first in tree order that has it as its phandle
abbrev pub target_of : List Node → Cell ℕ → Option ℕ
target_of nodes (cell.Node node) = if nat_lt node (length nodes) then Some node else None
target_of nodes (cell.Num n) = position (λ node. option_eq nat_eq (phandle_of node) (Some n)) nodes

-- how many properties the nodes have
abbrev pub property_count : List Node → ℕ
property_count nodes = sum_by (λ n. length n.properties) nodes

-- a cell is a number, or one of so many nodes
abbrev pub IsCellBelow : ℕ → Cell ℕ → Type 0
IsCellBelow count (cell.Num n) = Unit {0}
IsCellBelow count (cell.Node node) = node < count
