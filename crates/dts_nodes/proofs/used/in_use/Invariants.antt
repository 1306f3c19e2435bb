use Rattle.std.proofs.Common.{◌≡◌}
use Rattle.dts_nodes.specs.Use.{in_use_first}
use Rattle.dts_nodes.proofs.used.in_use.Given as goal

abbrev pub invariant-loop-node : goal.invariant-loop-node
invariant-loop-node l = l.flags.items ≡ in_use_first l.tree l.node
