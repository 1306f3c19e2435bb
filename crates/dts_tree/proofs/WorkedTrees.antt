-- The tree of a content, worked out by hand. Below the root are a (1) and b (2), c (3) below a, and d (4)
-- below b, so that in the tree c comes before b.
use Rattle.std.specs.Prelude.{◌≡◌, ℕ, List, [], ◌∷◌, Option, Some, None, codes}
use Rattle.std.proofs.Common.{refl}
use Rattle.dts_tree.specs.declared.value.Cell.TheVariants as cell
use Rattle.dts_tree.specs.Value.{Part, Cells, Text, Whole, Property}
use Rattle.dts_tree.specs.Setting.{Label}
use Rattle.dts_tree.specs.Content.{Content, nothing}
use Rattle.dts_tree.specs.Order.{below, children_from}
use Rattle.dts_tree.specs.Tree.{Node, parents_of, order_of, rank, properties_of, node_in, tree_of}
use Rattle.dts_tree.proofs.WorkedContents.{label, node}

-- a property by its name and its parts
abbrev pub property : List ℕ → List (Part ℕ) → Property ℕ
property name parts = record { name = name; parts = parts }

-- a node of a tree by its name, its parent, its place and its properties
abbrev pub tree_node : List ℕ → Option ℕ → ℕ → List (Property ℕ) → Node
tree_node name parent at properties = record { name = name; parent = parent; at = at; properties = properties }

abbrev set : List ((ℕ × List ℕ) × List (Part Label))
set =
    ((1, codes "p"), Cells (cell.Node (label (codes "y") 50) ∷ cell.Num 7 ∷ []) ∷ Text (codes "t") ∷ [])
    ∷ ((0, codes "m"), [])
    ∷ ((3, codes "p"), Whole (label (codes "x") 55) ∷ [])
    ∷ ((1, codes "o"), Cells (cell.Node (label (codes "z") 60) ∷ []) ∷ Whole (label (codes "w") 65) ∷ [])
    ∷ []

abbrev content : Content
content = record {
  root_at = Some 9;
  children = ((0, codes "a"), node 20 1) ∷ ((0, codes "b"), node 30 1) ∷ ((1, codes "c"), node 40 2) ∷ ((2, codes "d"), node 45 2) ∷ [];
  labels = ((0, codes "x"), 1) ∷ ((0, codes "y"), 2) ∷ ((0, codes "z"), 3) ∷ ((0, codes "w"), 4) ∷ [];
  properties = set;
}

abbrev order : List ℕ
order = 0 ∷ 1 ∷ 3 ∷ 2 ∷ 4 ∷ []

parents : parents_of content ≡ 0 ∷ 0 ∷ 0 ∷ 1 ∷ 2 ∷ []
parents = refl

in_order : order_of content ≡ order
unfolding below children_from
in_order = refl

-- ranks
rank_root : rank order 0 ≡ 0
rank_root = refl

rank_later : rank order 3 ≡ 2
rank_later = refl

rank_earlier : rank order 2 ≡ 3
rank_earlier = refl

rank_none : rank order 5 ≡ 5
rank_none = refl

-- the properties of nodes, where references to b, c and d are to 3, 2 and 4
of_root : properties_of content order 0 ≡ property (codes "m") [] ∷ []
of_root = refl

of_a : properties_of content order 1 ≡ property (codes "p") (Cells (cell.Node 3 ∷ cell.Num 7 ∷ []) ∷ Text (codes "t") ∷ []) ∷ property (codes "o") (Cells (cell.Node 2 ∷ []) ∷ Whole 4 ∷ []) ∷ []
of_a = refl

of_c : properties_of content order 3 ≡ property (codes "p") (Whole 1 ∷ []) ∷ []
of_c = refl

of_b : properties_of content order 2 ≡ []
of_b = refl

-- nodes
root : node_in content order 0 ≡ tree_node [] None 9 (property (codes "m") [] ∷ [])
root = refl

root_nowhere : node_in nothing (0 ∷ []) 0 ≡ tree_node [] None 0 []
unfolding nothing
root_nowhere = refl

node_c : node_in content order 3 ≡ tree_node (codes "c") (Some 1) 40 (property (codes "p") (Whole 1 ∷ []) ∷ [])
node_c = refl

node_d : node_in content order 4 ≡ tree_node (codes "d") (Some 3) 45 []
node_d = refl

-- a number that no node has
node_past_all : node_in content order 5 ≡ tree_node [] (Some 0) 0 []
node_past_all = refl

-- the whole tree, and that before the text
pub whole :
    tree_of content
    ≡ tree_node [] None 9 (property (codes "m") [] ∷ [])
    ∷ tree_node (codes "a") (Some 0) 20 (property (codes "p") (Cells (cell.Node 3 ∷ cell.Num 7 ∷ []) ∷ Text (codes "t") ∷ []) ∷ property (codes "o") (Cells (cell.Node 2 ∷ []) ∷ Whole 4 ∷ []) ∷ [])
    ∷ tree_node (codes "c") (Some 1) 40 (property (codes "p") (Whole 1 ∷ []) ∷ [])
    ∷ tree_node (codes "b") (Some 0) 30 []
    ∷ tree_node (codes "d") (Some 3) 45 []
    ∷ []
unfolding tree_of below children_from
whole = refl

root_alone : tree_of nothing ≡ tree_node [] None 0 [] ∷ []
unfolding tree_of below children_from nothing
root_alone = refl
