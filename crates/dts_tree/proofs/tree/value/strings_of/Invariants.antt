use Rattle.std.proofs.Common.{◌≡◌, Some, map, take}
use Rattle.dts_tree.specs.Look.{strings_of}
use Rattle.dts_tree.specs.Inside.Pieces.{parts_of}
use Rattle.dts_tree.proofs.tree.value.strings_of.Given as goal

abbrev pub invariant-loop-piece : goal.invariant-loop-piece
invariant-loop-piece l = strings_of (parts_of (take l.piece-index l.pieces)) ≡ Some (map (λ s. s.items) l.strings.items)
