-- What callers find in a tree, worked out by hand.
use Rattle.std.specs.Prelude.{◌≡◌, ℕ, List, [], ◌∷◌, Some, None, codes}
use Rattle.std.proofs.Common.{refl, arith}
use Rattle.dts_tree.specs.declared.value.Cell.TheVariants as cell
use Rattle.dts_tree.specs.Value.{Part, Cells, Text, Bytes, Whole, Property}
use Rattle.dts_tree.specs.Tree.{Node}
use Rattle.dts_tree.specs.Look.{bare, properties_at, property_at, cells_of, strings_of, only_number, phandle_of, target_of, property_count, IsCellBelow}
use Rattle.dts_tree.proofs.WorkedTrees.{property, tree_node}

-- cells of one number
abbrev number : ℕ → Part ℕ
number n = Cells (cell.Num n ∷ [])

-- a phandle of these parts
abbrev phandle : List (Part ℕ) → Property ℕ
phandle parts = property (codes "phandle") parts

-- a node with these properties
abbrev having : List (Property ℕ) → Node
having properties = tree_node (codes "n") (Some 0) 5 properties

abbrev nodes : List Node
nodes =
    tree_node [] None 3 (property (codes "model") (Text (codes "m") ∷ []) ∷ [])
    ∷ tree_node (codes "a") (Some 0) 20 (property (codes "q") [] ∷ phandle (number 7 ∷ []) ∷ property (codes "p") (number 1 ∷ []) ∷ [])
    ∷ tree_node (codes "b") (Some 0) 30 (phandle (number 8 ∷ []) ∷ [])
    ∷ tree_node (codes "c") (Some 2) 40 (phandle (number 7 ∷ []) ∷ property (codes "p") [] ∷ [])
    ∷ []

nobody : bare ≡ tree_node [] None 0 []
nobody = refl

-- the properties of a node
at_root : properties_at nodes 0 ≡ property (codes "model") (Text (codes "m") ∷ []) ∷ []
at_root = refl

at_node : properties_at nodes 3 ≡ phandle (number 7 ∷ []) ∷ property (codes "p") [] ∷ []
at_node = refl

at_none : properties_at nodes 4 ≡ []
at_none = refl

-- by a name
found : property_at nodes 1 (codes "p") ≡ Some (property (codes "p") (number 1 ∷ []))
found = refl

found_without_value : property_at nodes 1 (codes "q") ≡ Some (property (codes "q") [])
found_without_value = refl

not_found : property_at nodes 2 (codes "p") ≡ None
not_found = refl

longer_not_found : property_at nodes 1 (codes "pp") ≡ None
longer_not_found = refl

not_found_past_all : property_at nodes 4 (codes "p") ≡ None
not_found_past_all = refl

-- cells of all parts together
no_parts : cells_of [] ≡ Some []
no_parts = refl

all_cells : cells_of (Cells (cell.Num 1 ∷ cell.Node 2 ∷ []) ∷ Cells [] ∷ number 3 ∷ []) ≡ Some (cell.Num 1 ∷ cell.Node 2 ∷ cell.Num 3 ∷ [])
all_cells = refl

no_cells_at_text : cells_of (number 1 ∷ Text (codes "a") ∷ []) ≡ None
no_cells_at_text = refl

no_cells_at_bytes : cells_of (Bytes (1 ∷ []) ∷ number 1 ∷ []) ≡ None
no_cells_at_bytes = refl

no_cells_at_reference : cells_of (number 1 ∷ Whole 1 ∷ number 2 ∷ []) ≡ None
no_cells_at_reference = refl

-- strings
no_strings : strings_of [] ≡ Some []
no_strings = refl

all_strings : strings_of (Text (codes "ab") ∷ Text [] ∷ Text (codes "c") ∷ []) ≡ Some (codes "ab" ∷ [] ∷ codes "c" ∷ [])
all_strings = refl

no_strings_at_cells : strings_of (Text (codes "a") ∷ number 1 ∷ []) ≡ None
no_strings_at_cells = refl

no_strings_at_bytes : strings_of (Bytes (codes "a") ∷ []) ≡ None
no_strings_at_bytes = refl

no_strings_at_reference : strings_of (Text (codes "a") ∷ Whole 1 ∷ Text (codes "b") ∷ []) ≡ None
no_strings_at_reference = refl

-- one number alone
one_number : only_number (cell.Num 9 ∷ []) ≡ Some 9
one_number = refl

no_number : only_number [] ≡ None
no_number = refl

two_numbers : only_number (cell.Num 9 ∷ cell.Num 9 ∷ []) ≡ None
two_numbers = refl

reference_alone : only_number (cell.Node 9 ∷ []) ≡ None
reference_alone = refl

-- phandles
phandle_in_parts : phandle_of (having (property (codes "p") (number 3 ∷ []) ∷ phandle (number 7 ∷ Cells [] ∷ []) ∷ [])) ≡ Some 7
phandle_in_parts = refl

two_cells : phandle_of (having (phandle (Cells (cell.Num 7 ∷ cell.Num 8 ∷ []) ∷ []) ∷ [])) ≡ None
two_cells = refl

two_parts : phandle_of (having (phandle (number 7 ∷ number 8 ∷ []) ∷ [])) ≡ None
two_parts = refl

phandle_by_reference : phandle_of (having (phandle (Cells (cell.Node 1 ∷ []) ∷ []) ∷ [])) ≡ None
phandle_by_reference = refl

phandle_text : phandle_of (having (phandle (number 7 ∷ Text (codes "a") ∷ []) ∷ [])) ≡ None
phandle_text = refl

phandle_without_value : phandle_of (having (phandle [] ∷ [])) ≡ None
phandle_without_value = refl

no_phandle : phandle_of (having (property (codes "linux,phandle") (number 7 ∷ []) ∷ [])) ≡ None
no_phandle = refl

-- the node of a cell: of two nodes of one phandle the first
target_of_reference : target_of nodes (cell.Node 3) ≡ Some 3
target_of_reference = refl

target_past_all : target_of nodes (cell.Node 4) ≡ None
target_past_all = refl

target_first : target_of nodes (cell.Num 7) ≡ Some 1
target_first = refl

target_later : target_of nodes (cell.Num 8) ≡ Some 2
target_later = refl

no_target : target_of nodes (cell.Num 2) ≡ None
no_target = refl

count : property_count nodes ≡ 7
count = refl

count_none : property_count [] ≡ 0
count_none = refl

-- cells of three nodes
number_below : IsCellBelow 3 (cell.Num 9)
number_below = tt

reference_below : IsCellBelow 3 (cell.Node 2)
reference_below = omega arith

reference_not_below : ¬ IsCellBelow 3 (cell.Node 3)
reference_not_below less = absurd (omega (arith, less))
