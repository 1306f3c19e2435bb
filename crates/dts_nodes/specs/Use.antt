-- Which nodes of a tree are in use.
use Rattle.std.specs.Prelude.{ℕ, zero, suc, Bool, true, false, ◌&&◌, ◌||◌, ◌==◌, List, [], ◌∷◌, ◌++◌, Option, Some, None, codes, find, length, slice_index_or}
use Rattle.std.specs.List.{range_with_len}
use Rattle.std.specs.Option.{option_map_or, option_and_then, unwrap_or, option_eq}
use Rattle.std.specs.Str.{bytes_eq}
use Rattle.dts_tree.specs.Tree.{Node}
use Rattle.dts_tree.specs.Look.{bare, strings_of, property_at}

-- the strings of a node's property; none where it isn't there, or a part of it isn't a string
abbrev pub strings_at : List Node → ℕ → List ℕ → List (List ℕ)
strings_at nodes node name = unwrap_or (option_and_then (λ p. strings_of p.parts) (property_at nodes node name)) []

-- the strings are exactly the one, "okay" or "ok"
abbrev pub is_good_status : List (List ℕ) → Bool
is_good_status [] = false
is_good_status (status ∷ []) = bytes_eq status (codes "okay") || bytes_eq status (codes "ok")
is_good_status (status ∷ other ∷ strings) = false

-- a node's status is good, or isn't given
abbrev pub is_good : List Node → ℕ → Bool
is_good nodes node = option_map_or (λ _. is_good_status (strings_at nodes node (codes "status"))) (property_at nodes node (codes "status")) true

-- the parent of a node, which the root alone has not
abbrev pub parent_of : List Node → ℕ → Option ℕ
parent_of nodes node = (slice_index_or nodes node bare).parent

-- by the flags of the nodes before it: the node is the root, or its parent is in use
abbrev pub is_below_used : List Bool → Option ℕ → Bool
is_below_used before None = true
is_below_used before (Some parent) = slice_index_or before parent false

-- of the first so many nodes, whether each is in use: its status is good, and it is the root or stands
-- below a node in use; a parent stands before its children
abbrev pub in_use_first : List Node → ℕ → List Bool
in_use_first nodes zero = []
in_use_first nodes (suc node) =
    let before = in_use_first nodes node in
    before ++ (is_below_used before (parent_of nodes node) && is_good nodes node) ∷ []

-- of each node, in tree order, whether it is in use
abbrev pub in_use : List Node → List Bool
in_use nodes = in_use_first nodes (length nodes)

-- the node is in use
abbrev pub is_used : List Node → ℕ → Bool
is_used nodes node = slice_index_or (in_use nodes) node false

-- the numbers of the nodes
abbrev pub numbers_of_nodes : List Node → List ℕ
numbers_of_nodes nodes = range_with_len 0 (length nodes)

-- the child of a node that has this name and a good status
abbrev pub good_child_of : List Node → ℕ → List ℕ → Option ℕ
good_child_of nodes parent name =
    find (λ node. option_eq (λ a b. a == b) (parent_of nodes node) (Some parent) && bytes_eq name (slice_index_or nodes node bare).name && is_good nodes node) (numbers_of_nodes nodes)
