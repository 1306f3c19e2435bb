use Rattle.std.proofs.Common.{◌≡◌, ◌++◌, length, reverse}
use Rattle.dts_tree.specs.Order.{in_tree_order}
use Rattle.dts_tree.proofs.OrderLemmas.{Inside, pending}
use Rattle.dts_tree.proofs.tree.order.tree_order.Given as goal

abbrev pub invariant-loop-node : goal.invariant-loop-node
invariant-loop-node l = record {
  inside : Inside (length l.parents) (reverse l.waiting.items);
  left : l.order.items ++ pending l.parents (reverse l.waiting.items) ≡ in_tree_order l.parents;
}

abbrev pub decreases-loop-node : goal.decreases-loop-node
decreases-loop-node l = length (pending l.parents (reverse l.waiting.items))
