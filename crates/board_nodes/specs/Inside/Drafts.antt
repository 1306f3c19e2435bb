-- Rails before their names were looked at.
use Rattle.std.specs.Prelude.{ℕ, ◌+◌, ◌-◌, ◌≤◌, nat_lt, List, Option, Some, find, length, string_bytes}
use Rattle.std.specs.List.{AllByRecursion, enumerate_from, range_with_len}
use Rattle.std.specs.Option.{option_map}
use Rattle.dts_tree.specs.Tree.{Node}
use Rattle.dts_nodes.specs.Use.{good_child_of}
use Rattle.pmic_tables.specs.ChipDesc.{SeenRail}
use Rattle.board_nodes.specs.declared.draft.Draft.{Draft}
use Rattle.board_nodes.specs.Rails.{Found, name_at}
use Rattle.board_nodes.specs.Faults.{same_at}

-- the name of a draft
abbrev pub name_of : Draft → List ℕ
name_of draft = string_bytes draft.name

-- the rail of a draft
abbrev pub found_in : Draft → Found
found_in draft = record { name = name_of draft; node = draft.node; chip_node = draft.chip_node; supply = draft.supply.bytes; desc = draft.desc }

-- the rail of a chip, at its node
abbrev pub found_with : List Node → ℕ → SeenRail → ℕ → Found
found_with nodes chip_node rail node = record { name = name_at nodes node; node = node; chip_node = Some chip_node; supply = rail.supply; desc = rail.desc }

-- the rail of a chip that stands below `regulators`, where it does
abbrev pub found_below : List Node → ℕ → ℕ → SeenRail → Option Found
found_below nodes chip_node regulators rail = option_map (found_with nodes chip_node rail) (good_child_of nodes regulators rail.node)

-- the name has at most 64 bytes
abbrev pub IsShort : Draft → Type 0
IsShort draft = length (name_of draft) ≤ 64

-- each name has
abbrev pub AreShort : List Draft → Type 0
AreShort drafts = AllByRecursion IsShort drafts

-- the first name of more than 64 bytes, where the numbers begin at k
abbrev pub long_from : ℕ → List (List ℕ) → Option ℕ
long_from k names = option_map (λ named. named.0) (find (λ named. nat_lt 64 (length named.1)) (enumerate_from k names))

-- the first name behind number a that is the same
abbrev pub same_behind : List (List ℕ) → ℕ → Option ℕ
same_behind names a = find (same_at names a) (range_with_len (a + 1) (length names - (a + 1)))
