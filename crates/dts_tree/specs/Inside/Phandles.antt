-- The phandles of nodes.
use Rattle.std.specs.Prelude.{ℕ, List, Bool, Option, Some, nat_eq}
use Rattle.std.specs.List.{position}
use Rattle.std.specs.Option.{option_eq}
use Rattle.dts_tree.specs.Tree.{Node}
use Rattle.dts_tree.specs.Look.{phandle_of}

-- a node has the number as its phandle
abbrev pub has_phandle : ℕ → Node → Bool
has_phandle n node = option_eq nat_eq (phandle_of node) (Some n)

-- the first node that has it
abbrev pub first_with : List Node → ℕ → Option ℕ
first_with nodes n = position (has_phandle n) nodes
