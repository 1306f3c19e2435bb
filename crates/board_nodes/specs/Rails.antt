-- Which nodes of a tree are rails, in the order of the board.
use Rattle.std.specs.Prelude.{ℕ, ◌&&◌, nat_le, List, [], ◌∷◌, ◌++◌, map, flat_map, length, Option, Some, None, codes, option_to_list, slice_index_or, if◌then◌else◌}
use Rattle.std.specs.List.{enumerate_from, filter_map}
use Rattle.std.specs.Option.{option_map, option_and_then}
use Rattle.board.specs.declared.desc.Desc.{Desc}
use Rattle.board.specs.declared.table.Table.TheVariants.{List as Listed}
use Rattle.dts_tree.specs.Tree.{Node}
use Rattle.dts_tree.specs.Look.{bare}
use Rattle.dts_nodes.specs.Forms.{first_string_at, number_at, is_or}
use Rattle.dts_nodes.specs.Use.{good_child_of}
use Rattle.pmic_tables.specs.Sheet.{Sheet, Line}
use Rattle.pmic_tables.specs.Rules.{desc_of}
use Rattle.board_nodes.specs.declared.rail_node.RailNode.{RailNode}
use Rattle.board_nodes.specs.Chips.{chip_nodes, fixed_nodes, regulators_of, sheet_at}

-- a rail with its names as bytes
pub record Found : Type 0 where
  pub name : List ℕ
  pub node : ℕ
  pub chip_node : Option ℕ
  pub supply : List ℕ
  pub desc : Desc

-- a rail as the board has it
abbrev pub seen : RailNode → Found
seen rail = record { name = rail.name.bytes; node = rail.node; chip_node = rail.chip_node; supply = rail.supply.bytes; desc = rail.desc }

-- a byte that isn't printed, or a blank, becomes `_`
abbrev pub printed_byte : ℕ → ℕ
printed_byte byte = if nat_le 0x21 byte && nat_le byte 0x7e then byte else 0x5f

-- each byte does
abbrev pub printed : List ℕ → List ℕ
printed bytes = map printed_byte bytes

-- the first of two names that isn't empty
abbrev pub or_name : List ℕ → List ℕ → List ℕ
or_name other [] = other
or_name other (byte ∷ bytes) = byte ∷ bytes

-- the name of the rail of a node: `regulator-name`, if it has its form and isn't empty, else the node's name
abbrev pub name_at : List Node → ℕ → List ℕ
name_at nodes node = printed (or_name (slice_index_or nodes node bare).name (is_or [] (first_string_at nodes node (codes "regulator-name"))))

-- the rail of a node that a chip makes: line k of the data sheet of the chip with this number and node
abbrev pub chip_rail : List Node → ℕ → ℕ → Sheet → ℕ → Line → ℕ → Found
chip_rail nodes chip chip_node sheet k line node =
    record { name = name_at nodes node; node = node; chip_node = Some chip_node; supply = line.supply; desc = desc_of chip sheet.sleep k line }

-- the rails of a chip: the children of its `regulators` that its data sheet names, in the order of the data sheet
abbrev pub rails_of_chip : List Node → ℕ → ℕ → Sheet → List Found
rails_of_chip nodes chip chip_node sheet =
    filter_map
    (λ line. option_map (chip_rail nodes chip chip_node sheet line.0 line.1) (option_and_then (λ regulators. good_child_of nodes regulators line.1.node) (regulators_of nodes chip_node)))
    (enumerate_from 0 sheet.lines)

-- the rails of the chip with this number and node, if it is one
abbrev pub rails_at : List Node → ℕ → ℕ → List Found
rails_at nodes chip node = flat_map (rails_of_chip nodes chip node) (option_to_list (sheet_at nodes node))

-- the value of a fixed rail, in µV: its least bound, which its greatest is to equal; 0 where it isn't given
abbrev pub fixed_value : List Node → ℕ → ℕ
fixed_value nodes node = is_or 0 (number_at nodes node (codes "regulator-min-microvolt"))

-- fixed rail k of a chip: its on bit is bit 0 of register k, and it has one value
abbrev pub fixed_desc : ℕ → ℕ → ℕ → Desc
fixed_desc chip k value = record {
  table = Listed (value ∷ []);
  selector = None;
  enable = record { chip = chip; reg = k; mask = 1; shift = 0 };
  modes = None;
  greatest = 0 ∷ 0 ∷ 0 ∷ 0 ∷ [];
  suspend_enable = None;
  suspend_selector = None;
  dropout = 0;
  ramp = 0;
  enable_time = 0;
}

-- fixed rail k, on the chip with this number
abbrev pub fixed_rail : List Node → ℕ → ℕ → ℕ → Found
fixed_rail nodes chip k node = record {
  name = name_at nodes node;
  node = node;
  chip_node = None;
  supply = codes "vin";
  desc = fixed_desc chip k (fixed_value nodes node);
}

-- the rails of the board: those of the chips, and behind them the fixed ones, on a chip behind all others
abbrev pub rails_in : List Node → List Found
rails_in nodes =
    flat_map (λ chip. rails_at nodes chip.0 chip.1) (enumerate_from 0 (chip_nodes nodes))
    ++ map (λ fixed. fixed_rail nodes (length (chip_nodes nodes)) fixed.0 fixed.1) (enumerate_from 0 (fixed_nodes nodes))
