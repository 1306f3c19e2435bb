-- The parts of a value that is kept in pieces.
use Rattle.std.specs.Prelude.{ℕ, ◌+◌, List, [], ◌∷◌, ◌++◌, fold, slice_range}
use Rattle.dts_tree.specs.declared.value.Cell.{Cell}
use Rattle.dts_tree.specs.declared.value.Cell.TheVariants as cell
use Rattle.dts_tree.specs.declared.piece.Piece.{Piece}
use Rattle.dts_tree.specs.declared.piece.Piece.TheVariants as piece
use Rattle.dts_tree.specs.declared.piece.Place.{Place}
use Rattle.dts_tree.specs.Value.{Part, Cells, Text, Bytes, Whole}
use Rattle.dts_tree.specs.Setting.{Label}

module _ {R : Type 0} where
  -- one more cell of the last part
  abbrev pub with_cell : List (Part R) → Cell R → List (Part R)
  with_cell [] c = Cells (c ∷ []) ∷ []
  with_cell (Cells cells ∷ []) c = Cells (cells ++ c ∷ []) ∷ []
  with_cell (Text bytes ∷ []) c = Text bytes ∷ Cells (c ∷ []) ∷ []
  with_cell (Bytes bytes ∷ []) c = Bytes bytes ∷ Cells (c ∷ []) ∷ []
  with_cell (Whole r ∷ []) c = Whole r ∷ Cells (c ∷ []) ∷ []
  with_cell (p ∷ q ∷ ps) c = p ∷ with_cell (q ∷ ps) c

  -- one more byte of the last part
  abbrev pub with_byte : List (Part R) → ℕ → List (Part R)
  with_byte [] b = Bytes (b ∷ []) ∷ []
  with_byte (Bytes bytes ∷ []) b = Bytes (bytes ++ b ∷ []) ∷ []
  with_byte (Text bytes ∷ []) b = Text (bytes ++ b ∷ []) ∷ []
  with_byte (Cells cells ∷ []) b = Cells cells ∷ Bytes (b ∷ []) ∷ []
  with_byte (Whole r ∷ []) b = Whole r ∷ Bytes (b ∷ []) ∷ []
  with_byte (p ∷ q ∷ ps) b = p ∷ with_byte (q ∷ ps) b

  -- more bytes of the last part
  abbrev pub with_bytes : List (Part R) → List ℕ → List (Part R)
  with_bytes parts bytes = fold with_byte parts bytes

  -- one more piece
  abbrev pub with_piece : List (Part R) → Piece R → List (Part R)
  with_piece parts piece.Cells = parts ++ Cells [] ∷ []
  with_piece parts (piece.Number n) = with_cell parts (cell.Num n)
  with_piece parts (piece.Node r) = with_cell parts (cell.Node r)
  with_piece parts piece.Text = parts ++ Text [] ∷ []
  with_piece parts piece.Bytes = parts ++ Bytes [] ∷ []
  with_piece parts (piece.Byte b) = with_byte parts b
  with_piece parts (piece.Whole r) = parts ++ Whole r ∷ []

  -- the parts that pieces make
  unfoldable pub parts_of : List (Piece R) → List (Part R)
  parts_of pieces = fold with_piece [] pieces

  -- the reference that a piece is
  abbrev pub reference_in : Piece R → List R
  reference_in piece.Cells = []
  reference_in (piece.Number n) = []
  reference_in (piece.Node r) = r ∷ []
  reference_in piece.Text = []
  reference_in piece.Bytes = []
  reference_in (piece.Byte b) = []
  reference_in (piece.Whole r) = r ∷ []

-- other references in the place of those that are there
abbrev pub piece_by : {R S : Type 0} → (R → S) → Piece R → Piece S
piece_by f piece.Cells = piece.Cells
piece_by f (piece.Number n) = piece.Number n
piece_by f (piece.Node r) = piece.Node (f r)
piece_by f piece.Text = piece.Text
piece_by f piece.Bytes = piece.Bytes
piece_by f (piece.Byte b) = piece.Byte b
piece_by f (piece.Whole r) = piece.Whole (f r)

-- the label of a reference in a text
abbrev pub label_at : List ℕ → Place → Label
label_at text p = record { name = slice_range text (p.at + 1) p.end; at = p.at }
