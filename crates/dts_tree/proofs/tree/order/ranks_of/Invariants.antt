use Rattle.std.proofs.Common.{◌≡◌, ◌<◌, ◌≤◌, ◌+◌, ℕ, length, get_or, drop, nat_eq}
use Rattle.std.specs.List.{position_or_len}
use Rattle.dts_tree.proofs.tree.order.ranks_of.Given as goal

abbrev pub invariant-loop-at : goal.invariant-loop-at
invariant-loop-at l = record {
  high : l.at ≤ length l.order;
  long : length l.ranks.items ≡ l.count;
  ranks : (k : ℕ) → k < l.count → get_or l.ranks.items k 0 ≡ l.at + position_or_len (nat_eq k) (drop l.at l.order);
}

abbrev pub decreases-loop-at : goal.decreases-loop-at
decreases-loop-at l = l.at
