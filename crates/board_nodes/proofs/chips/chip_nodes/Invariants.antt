use Rattle.std.proofs.Common.{◌≡◌, ◌&&◌, is_some, filter}
use Rattle.std.specs.List.{range_with_len}
use Rattle.dts_nodes.specs.Use.{is_used}
use Rattle.board_nodes.specs.Chips.{sheet_at}
use Rattle.board_nodes.proofs.chips.chip_nodes.Given as goal

abbrev pub invariant-loop-node : goal.invariant-loop-node
invariant-loop-node l = l.chips ≡ filter (λ node. is_used l.tree node && is_some (sheet_at l.tree node)) (range_with_len 0 l.node)
