use Rattle.std.proofs.Common.{◌≡◌, ℕ, take}
use Rattle.std.specs.BTreeMap.{get}
use Rattle.std.specs.Ordering.{nat_cmp}
use Rattle.dts_tree.specs.Inside.Phandles.{first_with}
use Rattle.dts_tree.proofs.tree.phandles.phandles_of.Given as goal

abbrev pub invariant-loop-node : goal.invariant-loop-node
invariant-loop-node l = (n : ℕ) → get nat_cmp l.phandles n ≡ first_with (take l.node l.nodes) n
