-- A tree with a rail's node, worked out by hand.
use Rattle.std.specs.Prelude.{ℕ, List, [], ◌∷◌, map, None, Some, codes}
use Rattle.board.specs.declared.desc.Desc.{Desc}
use Rattle.board.proofs.Boards.{usb_table, buck, ldo}
use Rattle.dts_tree.specs.declared.value.Cell.TheVariants as cell
use Rattle.dts_tree.specs.Value.{Cells, Text, Property}
use Rattle.dts_tree.specs.Tree.{Node}
use Rattle.dts_tree.proofs.WorkedTrees.{property, tree_node}

-- a property of numbers in one part, one of one number, one of a string, and one without a value
abbrev pub numbers : List ℕ → List ℕ → Property ℕ
numbers name ns = property name (Cells (map cell.Num ns) ∷ [])

abbrev pub number : List ℕ → ℕ → Property ℕ
number name n = numbers name (n ∷ [])

abbrev pub text : List ℕ → List ℕ → Property ℕ
text name bytes = property name (Text bytes ∷ [])

abbrev pub flag : List ℕ → Property ℕ
flag name = property name []

-- the root, the node of another rail with one below it for mem, the rail's node, whose number is 3, and
-- what stands behind it
abbrev pub tree : List (Property ℕ) → List Node → List Node
tree properties behind =
    tree_node [] None 0 (flag (codes "regulator-boot-on") ∷ [])
    ∷ tree_node (codes "buck1") (Some 0) 10 (number (codes "regulator-min-microvolt") 1200000 ∷ flag (codes "regulator-always-on") ∷ [])
    ∷ tree_node (codes "regulator-state-mem") (Some 1) 20 (number (codes "regulator-suspend-microvolt") 1500000 ∷ [])
    ∷ tree_node (codes "buck2") (Some 0) 30 properties
    ∷ behind

-- a node below the rail's
abbrev pub state : List ℕ → List (Property ℕ) → Node
state name properties = tree_node name (Some 3) 40 properties

-- rails of 1200000, 1500000, 1800000, 2500000, 2800000, 3000000, 3200000 and 3300000 µV, with modes and
-- without
abbrev pub with_modes : Desc
with_modes = buck 1 usb_table 0x07

abbrev pub without_modes : Desc
without_modes = ldo 1 usb_table 0x07
