use Rattle.std.proofs.Common.{◌≡◌, Some, take}
use Rattle.dts_tree.specs.Look.{cells_of}
use Rattle.dts_tree.specs.Inside.Pieces.{parts_of}
use Rattle.dts_tree.proofs.tree.value.cells_of.Given as goal

abbrev pub invariant-loop-piece : goal.invariant-loop-piece
invariant-loop-piece l = cells_of (parts_of (take l.piece-index l.pieces)) ≡ Some l.cells.items
