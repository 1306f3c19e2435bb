-- The bounds that a rail's node gives.
use Rattle.std.specs.Prelude.{ℕ, Bool, not, ◌&&◌, ◌||◌, ◌==◌, nat_lt, List, Option, None, Some, if◌then◌else◌}
use Rattle.std.specs.List.{list_any}
use Rattle.std.specs.Option.{is_some}
use Rattle.board.specs.declared.table.Table.{Table}
use Rattle.board.specs.Table.{values_of}
use Rattle.board.specs.Rail.{is_within}
use Rattle.dts_tree.specs.Tree.{Node}
use Rattle.dts_nodes.specs.Forms.{number_at, is_or}
use Rattle.constraints.specs.declared.prop.Prop.{Prop}
use Rattle.constraints.specs.declared.prop.Prop.TheVariants.{MinMicrovolt, MaxMicrovolt}
use Rattle.constraints.specs.Prop.{name_of}

-- a number in µV or another unit, which is 0 where it isn't given
abbrev pub number_or_zero : List Node → ℕ → Prop → ℕ
number_or_zero nodes node property = is_or 0 (number_at nodes node (name_of property))

-- the least bound, in µV
abbrev pub least_bound : List Node → ℕ → ℕ
least_bound nodes node = number_or_zero nodes node MinMicrovolt

-- the greatest bound, in µV
abbrev pub greatest_bound : List Node → ℕ → ℕ
greatest_bound nodes node = number_or_zero nodes node MaxMicrovolt

-- bounds that are both 0 aren't given
abbrev pub given_bounds : ℕ → ℕ → Option (ℕ × ℕ)
given_bounds least greatest = if least == 0 && greatest == 0 then None else Some (least, greatest)

-- the bounds of a node, where they are given
abbrev pub bounds_at : List Node → ℕ → Option (ℕ × ℕ)
bounds_at nodes node = given_bounds (least_bound nodes node) (greatest_bound nodes node)

-- one bound is given, and the other isn't
abbrev pub is_one_bound : ℕ → ℕ → Bool
is_one_bound least greatest = (least == 0 && not (greatest == 0)) || (greatest == 0 && not (least == 0))

-- the least bound is above the greatest
abbrev pub is_reversed : ℕ → ℕ → Bool
is_reversed least greatest = nat_lt greatest least

-- the bounds differ
abbrev pub is_range : ℕ → ℕ → Bool
is_range least greatest = not (least == greatest)

-- bounds are given, and no value of the table is within them
abbrev pub has_no_value_inside : Option (ℕ × ℕ) → Table → Bool
has_no_value_inside bounds table = is_some bounds && not (list_any (λ pair. is_within bounds pair.1) (values_of table))
