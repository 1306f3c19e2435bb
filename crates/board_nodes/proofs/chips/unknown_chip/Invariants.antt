use Rattle.std.proofs.Common.{◌≡◌, length}
use Rattle.std.specs.List.{find, range_with_len}
use Rattle.board_nodes.specs.Chips.{is_unknown_chip}
use Rattle.board_nodes.specs.Inside.Siblings.{numbers_from}
use Rattle.board_nodes.proofs.chips.unknown_chip.Given as goal

abbrev pub invariant-loop-node : goal.invariant-loop-node
invariant-loop-node l = find (is_unknown_chip l.tree) (range_with_len 0 (length l.tree)) ≡ find (is_unknown_chip l.tree) (numbers_from l.tree l.node)
