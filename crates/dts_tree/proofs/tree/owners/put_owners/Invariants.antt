use Rattle.std.proofs.Common.{◌≡◌, ◌++◌, ◌≤◌, ◌-◌, map, take}
use Rattle.dts_tree.proofs.tree.owners.put_owners.Given as goal

abbrev pub invariant-loop-place : goal.invariant-loop-place
invariant-loop-place g l = record {
  high : l.place ≤ l.count;
  put : l.owners.items ≡ l.initial.owners.items ++ take l.place (map (λ e. e.0.0) l.entries);
}

abbrev pub decreases-loop-place : goal.decreases-loop-place
decreases-loop-place g l = l.count - l.place
