-- Which nodes of a tree are chips.
use Rattle.std.specs.Prelude.{ℕ, Bool, ◌+◌, ◌&&◌, not, List, [], ◌∷◌, map, filter, flat_map, find, length, Option, codes, option_to_list, slice_index_or}
use Rattle.std.specs.List.{enumerate_from, list_any}
use Rattle.std.specs.Option.{is_some, option_map}
use Rattle.std.specs.Str.{bytes_eq}
use Rattle.dts_tree.specs.Tree.{Node}
use Rattle.dts_tree.specs.Look.{bare}
use Rattle.dts_nodes.specs.Firsts.{first_of}
use Rattle.dts_nodes.specs.Use.{strings_at, is_used, numbers_of_nodes, good_child_of}
use Rattle.pmic_tables.specs.Sheet.{Sheet}
use Rattle.pmic_tables.specs.Named.{sheet_named}

-- the data sheet of names: that of the first that is a chip
abbrev pub first_sheet : List (List ℕ) → Option Sheet
first_sheet names = first_of (map sheet_named names)

-- the data sheet of a node: that of its `compatible`
abbrev pub sheet_at : List Node → ℕ → Option Sheet
sheet_at nodes node = first_sheet (strings_at nodes node (codes "compatible"))

-- the chips in tree order: the nodes in use that have a data sheet
abbrev pub chip_nodes : List Node → List ℕ
chip_nodes nodes = filter (λ node. is_used nodes node && is_some (sheet_at nodes node)) (numbers_of_nodes nodes)

-- one of the names is that of a rail of one value, which is a fixed rail
abbrev pub has_fixed : List (List ℕ) → Bool
has_fixed names = list_any (bytes_eq (codes "regulator-fixed")) names

-- the node is a fixed rail
abbrev pub is_fixed : List Node → ℕ → Bool
is_fixed nodes node = has_fixed (strings_at nodes node (codes "compatible"))

-- the fixed rails in tree order
abbrev pub fixed_nodes : List Node → List ℕ
fixed_nodes nodes = filter (λ node. is_used nodes node && is_fixed nodes node) (numbers_of_nodes nodes)

-- fixed rails have a chip of their own, which has no node
abbrev pub fixed_chips : List ℕ → ℕ
fixed_chips [] = 0
fixed_chips (node ∷ nodes) = 1

-- how many chips the board has
abbrev pub chip_count : List Node → ℕ
chip_count nodes = length (chip_nodes nodes) + fixed_chips (fixed_nodes nodes)

-- the node below which the rails of a chip stand
abbrev pub regulators_of : List Node → ℕ → Option ℕ
regulators_of nodes node = good_child_of nodes node (codes "regulators")

-- the node has rails below it, and is no chip
abbrev pub is_unknown_chip : List Node → ℕ → Bool
is_unknown_chip nodes node = is_used nodes node && is_some (regulators_of nodes node) && not (is_some (sheet_at nodes node))

-- the place of the first such node in the text
abbrev pub unknown_chip : List Node → Option ℕ
unknown_chip nodes = option_map (λ node. (slice_index_or nodes node bare).at) (find (is_unknown_chip nodes) (numbers_of_nodes nodes))

-- the registers of a chip that aren't 0 after a reset, with its number
abbrev pub chip_resets : List Node → ℕ → ℕ → List (ℕ × ℕ × ℕ)
chip_resets nodes chip node = flat_map (λ sheet. map (λ reset. (chip, reset.0, reset.1)) sheet.resets) (option_to_list (sheet_at nodes node))

-- the registers that aren't 0 after a reset, chip by chip
abbrev pub resets_of : List Node → List (ℕ × ℕ × ℕ)
resets_of nodes =
    flat_map (λ chip. chip_resets nodes chip.0 chip.1) (enumerate_from 0 (chip_nodes nodes))
