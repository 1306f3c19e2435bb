-- What a text sets, in its own words.
use Rattle.std.specs.Prelude.{ℕ, List}
use Rattle.dts_tree.specs.Value.{Part}

-- a label and the place where it stands
pub record Label : Type 0 where
  pub name : List ℕ
  pub at : ℕ

-- a node as a text names it: the root, the node of a label, or a node's child of a name
pub data Path : Type 0 where
  Root : Path
  Labelled : List ℕ → Path
  Child : Path → List ℕ → Path

-- A body of the root begins, with its slash at a place; a body of a node's child begins, with its
-- name at a place, behind labels; a body that adds to the node of a label begins; a property is set.
pub data Setting : Type 0 where
  OpensRoot : ℕ → Setting
  Opens : Path → List ℕ → ℕ → List Label → Setting
  Adds : Label → Setting
  Sets : Path → List ℕ → List (Part Label) → Setting
