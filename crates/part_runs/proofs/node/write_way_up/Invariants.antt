use Rattle.std.proofs.Common.{◌<◌, length}
use Rattle.part_runs.proofs.node.write_way_up.Given as goal

abbrev pub invariant-loop-parent : goal.invariant-loop-parent
invariant-loop-parent l = l.node < length l.tree

abbrev pub decreases-loop-parent : goal.decreases-loop-parent
decreases-loop-parent l = l.node
