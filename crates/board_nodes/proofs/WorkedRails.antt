-- The chips and the rails of a board of two chips and two fixed rails, one of which stands before the chips.
use Rattle.std.proofs.Common.{◌≡◌, ℕ, List, [], ◌∷◌, Option, Some, None, map, refl}
use Rattle.std.specs.Prelude.{codes}
use Rattle.board.specs.declared.table.Table.TheVariants.{List as Listed}
use Rattle.dts_tree.specs.Tree.{Node}
use Rattle.pmic_tables.specs.Pm4.{pm4}
use Rattle.pmic_tables.specs.Pm8.{pm8}
use Rattle.board_nodes.specs.Chips.{sheet_at, chip_nodes, fixed_nodes, chip_count, resets_of}
use Rattle.board_nodes.specs.Rails.{Found, rails_in, fixed_value, fixed_desc}
use Rattle.board_nodes.specs.Faults.{nodes_fault}
use Rattle.board_nodes.proofs.WorkedTree.{node, root, property, text, number, compatible, rail_name, is_pm4, is_fixed_rail, regulators}

abbrev nodes : List Node
nodes =
    root
    ∷ node (codes "vcc") 0 10 (is_fixed_rail ∷ rail_name (text (codes "vcc main") ∷ []) ∷ property (codes "regulator-min-microvolt") (number 3300000 ∷ []) ∷ [])
    ∷ node (codes "pmic@a") 0 20 (is_pm4 ∷ [])
    ∷ regulators 2
    ∷ node (codes "ldo1") 3 40 []
    ∷ node (codes "buck1") 3 50 (rail_name (text (codes "core") ∷ text (codes "cpu") ∷ []) ∷ [])
    ∷ node (codes "pmic@b") 0 60 (compatible (text (codes "other") ∷ text (codes "example,pm8") ∷ text (codes "example,pm4") ∷ []) ∷ [])
    ∷ regulators 6
    ∷ node (codes "buck9") 7 80 []
    ∷ node (codes "buck2") 7 90 []
    ∷ node (codes "aux") 0 100 (compatible (text (codes "other") ∷ text (codes "regulator-fixed") ∷ []) ∷ [])
    ∷ node (codes "led") 0 110 []
    ∷ []

-- what tells a rail: its name, its node, the node of its chip, its supply, and the chip and the register of its on bit
record Told : Type 0 where
  name : List ℕ
  at : ℕ
  chip_node : Option ℕ
  supply : List ℕ
  chip : ℕ
  register : ℕ

abbrev told : Found → Told
told rail = record { name = rail.name; at = rail.node; chip_node = rail.chip_node; supply = rail.supply; chip = rail.desc.enable.chip; register = rail.desc.enable.reg }

two_chips : chip_nodes nodes ≡ 2 ∷ 6 ∷ []
two_chips = refl

two_fixed : fixed_nodes nodes ≡ 1 ∷ 10 ∷ []
two_fixed = refl

-- fixed rails have one chip together
three_chips : chip_count nodes ≡ 3
three_chips = refl

-- of two chips in one `compatible` the first counts
second_name_counts : sheet_at nodes 6 ≡ Some pm8
second_name_counts = refl

-- the order is that of the data sheet, chip by chip, and fixed rails come last
all_rails : map told (rails_in nodes)
    ≡ record { name = codes "core"; at = 5; chip_node = Some 2; supply = codes "vin1"; chip = 0; register = 0x20 }
    ∷ record { name = codes "ldo1"; at = 4; chip_node = Some 2; supply = codes "vinl1"; chip = 0; register = 0x20 }
    ∷ record { name = codes "buck2"; at = 9; chip_node = Some 6; supply = codes "vin2"; chip = 1; register = 0x20 }
    ∷ record { name = codes "vcc_main"; at = 1; chip_node = None; supply = codes "vin"; chip = 2; register = 0 }
    ∷ record { name = codes "aux"; at = 10; chip_node = None; supply = codes "vin"; chip = 2; register = 1 }
    ∷ []
unfolding pm4 pm8
all_rails = refl

-- each rail has the on bit of its line, also where other lines have no node
on_bits : map (λ rail. rail.desc.enable.mask) (rails_in nodes) ≡ 1 ∷ 8 ∷ 2 ∷ 1 ∷ 1 ∷ []
unfolding pm4 pm8
on_bits = refl

selectors : map (λ rail. rail.desc.selector) (rails_in nodes)
    ≡ Some (record { chip = 0; reg = 0x10; mask = 0x7f; shift = 0 })
    ∷ Some (record { chip = 0; reg = 0x13; mask = 0x07; shift = 0 })
    ∷ Some (record { chip = 1; reg = 0x11; mask = 0x7f; shift = 0 })
    ∷ None
    ∷ None
    ∷ []
unfolding pm4 pm8
selectors = refl

all_resets : resets_of nodes ≡ (0, 0x10, 0x20) ∷ (0, 0x11, 0x20) ∷ (0, 0x30, 0x15) ∷ (1, 0x30, 0x55) ∷ []
unfolding pm4 pm8
all_resets = refl

no_fault : nodes_fault nodes ≡ None
unfolding pm4 pm8
no_fault = refl

-- a fixed rail's value, and its description
given : fixed_value nodes 1 ≡ 3300000
given = refl

not_given : fixed_value nodes 10 ≡ 0
not_given = refl

fixed_whole : fixed_desc 2 1 3300000 ≡ record {
  table = Listed (3300000 ∷ []);
  selector = None;
  enable = record { chip = 2; reg = 1; mask = 1; shift = 0 };
  modes = None;
  greatest = 0 ∷ 0 ∷ 0 ∷ 0 ∷ [];
  suspend_enable = None;
  suspend_selector = None;
  dropout = 0;
  ramp = 0;
  enable_time = 0;
}
fixed_whole = refl
