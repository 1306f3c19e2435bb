-- When an outline is that of a tree.
use Rattle.std.specs.Prelude.{◌≡◌, ℕ, ◌<◌, true, List, length}
use Rattle.dts_tree.specs.Tree.{Node}
use Rattle.dts_nodes.specs.Use.{in_use, is_used}
use Rattle.board_nodes.specs.declared.outline.Outline.{Outline}
use Rattle.board_nodes.specs.Inside.Siblings.{IsSiblings}

-- the outline has the nodes in use and the children of each node
pub record IsOutline (nodes : List Node) (outline : Outline) : Type 0 where
  pub used : outline.used ≡ in_use nodes
  pub count : length outline.used ≡ length nodes
  pub siblings : IsSiblings nodes outline.siblings.first.items outline.siblings.next.items 0

-- the node is one of the tree, and in use
pub record IsThere (nodes : List Node) (node : ℕ) : Type 0 where
  pub inside : node < length nodes
  pub used : is_used nodes node ≡ true
