-- What a property says. A reference R is a node's number, or the label that a text names it by.
use Rattle.std.specs.Prelude.{ℕ, List, map}
use Rattle.dts_tree.specs.declared.value.Cell.{Cell}
use Rattle.dts_tree.specs.declared.value.Cell.TheVariants.{Num, Node}

-- a part of a value: cells, a string, bytes, or a reference by itself
pub data Part (R : Type 0) : Type 0 where
  Cells : List (Cell R) → Part R
  Text : List ℕ → Part R
  Bytes : List ℕ → Part R
  Whole : R → Part R

-- a property and the parts of its value; one without a value has none
pub record Property (R : Type 0) : Type 0 where
  pub name : List ℕ
  pub parts : List (Part R)

module _ {R S : Type 0} (f : R → S) where
  -- other references in the place of those that are there
  abbrev pub cell_by : Cell R → Cell S
  cell_by (Num n) = Num n
  cell_by (Node r) = Node (f r)

  abbrev pub part_by : Part R → Part S
  part_by (Cells cells) = Cells (map cell_by cells)
  part_by (Text bytes) = Text bytes
  part_by (Bytes bytes) = Bytes bytes
  part_by (Whole r) = Whole (f r)
