-- Where nodes stand, by the numbers that they have while the text is read.
use Rattle.std.specs.Prelude.{◌≡◌, ℕ, ◌<◌, List, length, slice_index}
use Rattle.dts_tree.specs.Order.{in_tree_order}
use Rattle.dts_tree.specs.Tree.{rank}

-- nodes in tree order, and where each of them stands there
pub record IsLayout (parents order ranks : List ℕ) : Type 0 where
  pub ordered : order ≡ in_tree_order parents
  pub long : length ranks ≡ length parents
  pub ranked : (k : ℕ) → k < length parents → slice_index ranks k ≡ rank order k
