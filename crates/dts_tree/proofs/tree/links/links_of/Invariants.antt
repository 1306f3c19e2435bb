use Rattle.std.proofs.Common.{◌≤◌, length}
use Rattle.dts_tree.specs.Inside.Links.{Linked}
use Rattle.dts_tree.proofs.tree.links.links_of.Given as goal

abbrev pub invariant-loop-k : goal.invariant-loop-k
invariant-loop-k l = record {
  low : l.from ≤ l.k;
  high : l.k ≤ length l.owners;
  linked : Linked l.owners l.count l.first.items l.next.items l.k;
}

abbrev pub decreases-loop-k : goal.decreases-loop-k
decreases-loop-k l = l.k
