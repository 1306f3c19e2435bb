use Rattle.std.proofs.Common.{◌≡◌, ℕ}
use Rattle.std.specs.BTreeMap.{get}
use Rattle.std.specs.List.{find, range_with_len}
use Rattle.std.specs.Ordering.{nat_cmp}
use Rattle.constraints.specs.StateNodes.{is_good_child}
use Rattle.constraints.proofs.states.good_children.Given as goal

abbrev pub invariant-loop-node : goal.invariant-loop-node
invariant-loop-node l = (parent : ℕ) → get nat_cmp l.children parent ≡ find (is_good_child l.tree parent l.name) (range_with_len 0 l.node)
