-- Nodes that are read over: a chip, its `regulators`, a rail, and all below a bus.
use Rattle.std.proofs.Common.{◌≡◌, List, [], ◌∷◌, Some, None, true, false, map, refl}
use Rattle.std.specs.Prelude.{codes}
use Rattle.dts_tree.specs.Tree.{Node}
use Rattle.pmic_tables.specs.Pm4.{pm4}
use Rattle.pmic_tables.specs.Pm12.{pm12}
use Rattle.board_nodes.specs.Chips.{first_sheet, sheet_at, chip_nodes, has_fixed, fixed_nodes, chip_count, regulators_of, is_unknown_chip, unknown_chip}
use Rattle.board_nodes.specs.Rails.{rails_in, rails_at}
use Rattle.board_nodes.proofs.WorkedTree.{node, root, text, number, compatible, status, is_pm4, is_fixed_rail, regulators}

abbrev nodes : List Node
nodes =
    root
    ∷ node (codes "a") 0 10 (is_pm4 ∷ status (codes "disabled") ∷ [])
    ∷ regulators 1
    ∷ node (codes "buck1") 2 30 []
    ∷ node (codes "b") 0 40 (is_pm4 ∷ [])
    ∷ node (codes "regulators") 4 50 (status (codes "disabled") ∷ [])
    ∷ node (codes "buck1") 5 60 []
    ∷ node (codes "c") 0 70 (status (codes "okay") ∷ is_pm4 ∷ [])
    ∷ regulators 7
    ∷ node (codes "buck1") 8 90 (status (codes "fail") ∷ [])
    ∷ node (codes "buck2") 8 100 (status (codes "ok") ∷ [])
    ∷ node (codes "bus") 0 110 (status (codes "disabled") ∷ [])
    ∷ node (codes "d") 11 120 (is_pm4 ∷ [])
    ∷ node (codes "e") 11 130 (is_fixed_rail ∷ [])
    ∷ node (codes "f") 0 140 (is_fixed_rail ∷ status (codes "reserved") ∷ [])
    ∷ []

chips : chip_nodes nodes ≡ 4 ∷ 7 ∷ []
chips = refl

no_fixed : fixed_nodes nodes ≡ []
no_fixed = refl

-- without fixed rails there is no chip of them
two_chips : chip_count nodes ≡ 2
two_chips = refl

not_there : regulators_of nodes 4 ≡ None
not_there = refl

there : regulators_of nodes 7 ≡ Some 8
there = refl

rails : map (λ rail. rail.node) (rails_in nodes) ≡ 10 ∷ []
unfolding pm4
rails = refl

of_second_chip : map (λ rail. rail.desc.enable.chip) (rails_in nodes) ≡ 1 ∷ []
unfolding pm4
of_second_chip = refl

-- a node that is no chip makes no rails
of_no_chip : rails_at nodes 0 0 ≡ []
of_no_chip = refl

-- names of chips
first_counts : first_sheet (codes "x" ∷ codes "example,pm12" ∷ codes "example,pm4" ∷ []) ≡ Some pm12
first_counts = refl

none_known : first_sheet (codes "x" ∷ codes "y" ∷ []) ≡ None
none_known = refl

no_names : first_sheet [] ≡ None
no_names = refl

fixed_among : has_fixed (codes "x" ∷ codes "regulator-fixed" ∷ []) ≡ true
fixed_among = refl

not_fixed : has_fixed (codes "regulator-fixe" ∷ codes "regulator-fixed-clock" ∷ []) ≡ false
not_fixed = refl

-- nodes with rails below them that are no chips, and nodes that are passed over
abbrev unknown : List Node
unknown =
    root
    ∷ node (codes "off") 0 10 (status (codes "disabled") ∷ [])
    ∷ regulators 1
    ∷ node (codes "empty") 0 30 []
    ∷ node (codes "regulators") 3 40 (status (codes "disabled") ∷ [])
    ∷ node (codes "known") 0 50 (is_pm4 ∷ [])
    ∷ regulators 5
    ∷ node (codes "mixed") 0 70 (compatible (text (codes "example,pm4") ∷ number 1 ∷ []) ∷ [])
    ∷ regulators 7
    ∷ node (codes "none") 0 90 []
    ∷ regulators 9
    ∷ []

-- a `compatible` with a number among its parts has no strings
mixed : sheet_at unknown 7 ≡ None
mixed = refl

by_node : map (is_unknown_chip unknown) (0 ∷ 1 ∷ 3 ∷ 5 ∷ 7 ∷ 9 ∷ []) ≡ false ∷ false ∷ false ∷ false ∷ true ∷ true ∷ []
by_node = refl

first_unknown : unknown_chip unknown ≡ Some 70
first_unknown = refl

all_known : unknown_chip nodes ≡ None
all_known = refl

-- a node may be a chip and a fixed rail at once, and the root may be one
abbrev both : List Node
both = record { name = []; parent = None; at = 0; properties = compatible (text (codes "example,pm4") ∷ text (codes "regulator-fixed") ∷ []) ∷ [] } ∷ []

chip_and_rail : chip_nodes both ≡ 0 ∷ []
chip_and_rail = refl

rail_and_chip : fixed_nodes both ≡ 0 ∷ []
rail_and_chip = refl

without_name : map (λ rail. rail.name) (rails_in both) ≡ [] ∷ []
unfolding pm4
without_name = refl

behind_all_chips : map (λ rail. rail.desc.enable.chip) (rails_in both) ≡ 1 ∷ []
unfolding pm4
behind_all_chips = refl
