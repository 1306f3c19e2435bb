-- References to nodes that are there.
use Rattle.std.specs.Prelude.{ℕ, ◌<◌}
use Rattle.dts_tree.specs.declared.piece.Piece.{Piece}
use Rattle.dts_tree.specs.declared.piece.Piece.TheVariants as piece

-- a piece refers to none but so many nodes
abbrev pub IsPieceBelow : ℕ → Piece ℕ → Type 0
IsPieceBelow count piece.Cells = Unit {0}
IsPieceBelow count (piece.Number n) = Unit {0}
IsPieceBelow count (piece.Node node) = node < count
IsPieceBelow count piece.Text = Unit {0}
IsPieceBelow count piece.Bytes = Unit {0}
IsPieceBelow count (piece.Byte byte) = Unit {0}
IsPieceBelow count (piece.Whole node) = node < count
