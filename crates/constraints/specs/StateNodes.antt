-- The nodes below rails' nodes for a suspended board, as they are found.
use Rattle.std.specs.Prelude.{ℕ, Bool, ◌&&◌, ◌==◌, List, [], ◌∷◌, map, Option, Some, slice_index_or}
use Rattle.std.specs.BTreeMap.{get}
use Rattle.std.specs.Option.{option_eq}
use Rattle.std.specs.Ordering.{nat_cmp}
use Rattle.std.specs.Str.{bytes_eq}
use Rattle.dts_tree.specs.Tree.{Node}
use Rattle.dts_tree.specs.Look.{bare}
use Rattle.dts_nodes.specs.Use.{parent_of, is_good}
use Rattle.constraints.specs.declared.states.StateNodes.{StateNodes}

-- the node is a child of this parent, of this name and with a good status
abbrev pub is_good_child : List Node → ℕ → List ℕ → ℕ → Bool
is_good_child nodes parent name node =
    option_eq (λ a b. a == b) (parent_of nodes node) (Some parent) && bytes_eq name (slice_index_or nodes node bare).name && is_good nodes node

-- the nodes that were found below a node: for standby, mem and disk
abbrev pub nodes_below : StateNodes → ℕ → List (Option ℕ)
nodes_below found node = map (λ children. get nat_cmp children node) (found.standby ∷ found.mem ∷ found.disk ∷ [])
