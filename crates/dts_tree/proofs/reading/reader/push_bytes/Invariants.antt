use Rattle.std.proofs.Common.{◌≡◌, ◌++◌, map, take}
use Rattle.dts_tree.specs.declared.piece.Piece.TheVariants.{Byte}
use Rattle.dts_tree.proofs.reading.reader.push_bytes.Given as goal

abbrev pub invariant-loop-b : goal.invariant-loop-b
invariant-loop-b l = l.pieces.items ≡ l.initial.pieces.items ++ map Byte (take l.b-index l.bytes)
