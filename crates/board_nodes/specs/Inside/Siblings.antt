-- The children of nodes, one after another.
use Rattle.std.specs.Prelude.{◌≡◌, ℕ, Bool, ◌+◌, ◌-◌, ◌<◌, ◌≤◌, ◌==◌, List, Option, Some, None, find, length, slice_index_or}
use Rattle.std.specs.List.{range_with_len}
use Rattle.std.specs.Option.{option_eq}
use Rattle.dts_tree.specs.Tree.{Node}
use Rattle.dts_nodes.specs.Use.{parent_of}

-- the nodes from number k on
abbrev pub numbers_from : List Node → ℕ → List ℕ
numbers_from nodes k = range_with_len k (length nodes - k)

-- the node stands below this one
abbrev pub has_parent : List Node → ℕ → ℕ → Bool
has_parent nodes parent node = option_eq (λ a b. a == b) (parent_of nodes node) (Some parent)

-- the first child of a node from number k on
abbrev pub first_below : List Node → ℕ → ℕ → Option ℕ
first_below nodes parent k = find (has_parent nodes parent) (numbers_from nodes k)

-- from number k on, of each node its first child and the next child of its parent; and each parent stands before its children
pub record IsSiblings (nodes : List Node) (first next : List (Option ℕ)) (k : ℕ) : Type 0 where
  pub firsts : length first ≡ length nodes
  pub nexts : length next ≡ length nodes
  pub child : (parent : ℕ) → parent < length nodes → slice_index_or first parent None ≡ first_below nodes parent k
  pub sibling : (node parent : ℕ) → k ≤ node → node < length nodes → parent_of nodes node ≡ Some parent → slice_index_or next node None ≡ first_below nodes parent (node + 1)
  pub lower : (node parent : ℕ) → k ≤ node → node < length nodes → parent_of nodes node ≡ Some parent → parent < node
