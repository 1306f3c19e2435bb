use Rattle.std.proofs.Common.{◌≡◌, ◌&&◌, filter}
use Rattle.std.specs.List.{range_with_len}
use Rattle.dts_nodes.specs.Use.{is_used}
use Rattle.board_nodes.specs.Chips.{is_fixed}
use Rattle.board_nodes.proofs.chips.fixed_nodes.Given as goal

abbrev pub invariant-loop-node : goal.invariant-loop-node
invariant-loop-node l = l.fixed ≡ filter (λ node. is_used l.tree node && is_fixed l.tree node) (range_with_len 0 l.node)
