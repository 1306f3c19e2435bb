-- Each reason against a board, and which of two counts.
use Rattle.std.proofs.Common.{◌≡◌, ℕ, ◌++◌, List, [], ◌∷◌, Some, None, refl, replicate}
use Rattle.std.specs.Prelude.{codes}
use Rattle.dts_tree.specs.Tree.{Node}
use Rattle.pmic_tables.specs.Pm4.{pm4}
use Rattle.board_nodes.specs.declared.fault.NodesFault.TheVariants.{TooManyChips, UnknownChip, TooManyRails, NoRails, NameTooLong, TwoNames}
use Rattle.board_nodes.specs.Faults.{nodes_fault}
use Rattle.board_nodes.proofs.WorkedTree.{node, root, text, rail_name, is_pm4, is_fixed_rail, regulators}

-- so many chips without rails
abbrev chips : ℕ → List Node
chips n = replicate n (node (codes "pmic") 0 5 (is_pm4 ∷ []))

-- so many fixed rails of one name
abbrev fixed : ℕ → List Node
fixed n = replicate n (node (codes "vcc") 0 6 (is_fixed_rail ∷ []))

abbrev fixed_named : List ℕ → Node
fixed_named name = node (codes "vcc") 0 6 (is_fixed_rail ∷ rail_name (text name ∷ []) ∷ [])

abbrev long : List ℕ
long = replicate 65 0x61

no_rails : nodes_fault (root ∷ []) ≡ Some NoRails
no_rails = refl

sixteen_chips : nodes_fault (root ∷ chips 16) ≡ Some NoRails
unfolding pm4
sixteen_chips = refl

seventeen_chips : nodes_fault (root ∷ chips 17) ≡ Some (TooManyChips 17)
unfolding pm4
seventeen_chips = refl

-- the chip of fixed rails counts
sixteen_and_fixed : nodes_fault (root ∷ chips 16 ++ fixed 2) ≡ Some (TooManyChips 17)
unfolding pm4
sixteen_and_fixed = refl

fifteen_and_fixed : nodes_fault (root ∷ chips 15 ++ fixed 1) ≡ None
unfolding pm4
fifteen_and_fixed = refl

one_rail : nodes_fault (root ∷ fixed 1) ≡ None
one_rail = refl

unknown_chip_first : nodes_fault (root ∷ node (codes "a") 0 30 [] ∷ regulators 1 ∷ []) ≡ Some (UnknownChip 30)
unknown_chip_first = refl

long_name_told : nodes_fault (root ∷ fixed_named (codes "a") ∷ fixed_named long ∷ []) ≡ Some (NameTooLong 1)
long_name_told = refl

two_names_told : nodes_fault (root ∷ fixed_named (codes "a") ∷ fixed_named (codes "b") ∷ fixed_named (codes "a") ∷ []) ≡ Some (TwoNames 0 2)
two_names_told = refl

-- of two reasons the one that is looked at first
chips_before_unknown : nodes_fault (root ∷ node (codes "a") 0 30 [] ∷ regulators 1 ∷ chips 17) ≡ Some (TooManyChips 17)
unfolding pm4
chips_before_unknown = refl

unknown_before_none : nodes_fault (root ∷ node (codes "a") 0 30 [] ∷ regulators 1 ∷ chips 1) ≡ Some (UnknownChip 30)
unfolding pm4
unknown_before_none = refl

unknown_before_long : nodes_fault (root ∷ node (codes "a") 0 30 [] ∷ regulators 1 ∷ fixed_named long ∷ []) ≡ Some (UnknownChip 30)
unknown_before_long = refl

long_before_two : nodes_fault (root ∷ fixed_named (codes "a") ∷ fixed_named (codes "a") ∷ fixed_named long ∷ []) ≡ Some (NameTooLong 2)
long_before_two = refl

sixty_five_rails : nodes_fault (root ∷ fixed_named long ∷ fixed 64) ≡ Some (TooManyRails 65)
sixty_five_rails = refl

sixty_four_rails : nodes_fault (root ∷ fixed_named long ∷ fixed 63) ≡ Some (NameTooLong 0)
sixty_four_rails = refl

unknown_before_rails : nodes_fault (root ∷ node (codes "a") 0 30 [] ∷ regulators 1 ∷ fixed 65) ≡ Some (UnknownChip 30)
unknown_before_rails = refl
