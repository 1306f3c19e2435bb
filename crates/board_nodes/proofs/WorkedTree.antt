-- Trees to work out by hand.
use Rattle.std.proofs.Common.{ℕ, List, [], ◌∷◌, Some, None}
use Rattle.std.specs.Prelude.{codes}
use Rattle.dts_tree.specs.declared.value.Cell.TheVariants as cell
use Rattle.dts_tree.specs.Value.{Part, Cells, Text, Property}
use Rattle.dts_tree.specs.Tree.{Node}

-- a node with its name, its parent, its place and its properties
abbrev pub node : List ℕ → ℕ → ℕ → List (Property ℕ) → Node
node name parent at properties = record { name = name; parent = Some parent; at = at; properties = properties }

abbrev pub root : Node
root = record { name = []; parent = None; at = 0; properties = [] }

-- a property of these parts
abbrev pub property : List ℕ → List (Part ℕ) → Property ℕ
property name parts = record { name = name; parts = parts }

abbrev pub text : List ℕ → Part ℕ
text bytes = Text bytes

abbrev pub number : ℕ → Part ℕ
number n = Cells (cell.Num n ∷ [])

abbrev pub compatible : List (Part ℕ) → Property ℕ
compatible parts = property (codes "compatible") parts

abbrev pub status : List ℕ → Property ℕ
status bytes = property (codes "status") (Text bytes ∷ [])

abbrev pub rail_name : List (Part ℕ) → Property ℕ
rail_name parts = property (codes "regulator-name") parts

abbrev pub is_pm4 : Property ℕ
is_pm4 = compatible (Text (codes "example,pm4") ∷ [])

abbrev pub is_fixed_rail : Property ℕ
is_fixed_rail = compatible (Text (codes "regulator-fixed") ∷ [])

abbrev pub regulators : ℕ → Node
regulators parent = node (codes "regulators") parent 7 []
