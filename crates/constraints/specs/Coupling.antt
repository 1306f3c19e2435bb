-- The rails that a node names as coupled, and how far they may differ.
use Rattle.std.specs.Prelude.{ℕ, Bool, true, false, not, ◌&&◌, ◌||◌, ◌==◌, nat_le, nat_eq, List, [], length, Option, slice_get, if◌then◌else◌}
use Rattle.std.specs.List.{list_all}
use Rattle.std.specs.Option.{option_map_or}
use Rattle.dts_tree.specs.declared.value.Cell.{Cell}
use Rattle.dts_tree.specs.Tree.{Node}
use Rattle.dts_nodes.specs.declared.form.Form.{Form}
use Rattle.dts_nodes.specs.declared.form.Form.TheVariants.{Absent, Wrong, Is}
use Rattle.dts_nodes.specs.Forms.{cells_at, numbers_at, is_or}
use Rattle.constraints.specs.declared.prop.Prop.TheVariants.{CoupledWith, MaxSpread}
use Rattle.constraints.specs.Prop.{name_of}

-- the cells that name the rails
abbrev pub couples_at : List Node → ℕ → List (Cell ℕ)
couples_at nodes node = is_or [] (cells_at nodes node (name_of CoupledWith))

-- the spread, or the spreads
abbrev pub spreads_at : List Node → ℕ → List ℕ
spreads_at nodes node = is_or [] (numbers_at nodes node (name_of MaxSpread))

-- all numbers are as the first
abbrev pub are_equal : List ℕ → Bool
are_equal numbers = option_map_or (λ first. list_all (nat_eq first) numbers) (slice_get numbers 0) true

-- the numbers are one spread, or one for each of so many coupled rails, all equal; without coupled
-- rails there may be none
abbrev pub fit_couples : ℕ → List ℕ → Bool
fit_couples couples numbers =
    if couples == 0 then nat_le (length numbers) 1
    else length numbers == 1 || (length numbers == couples && are_equal numbers)

-- spreads of a rail with so many coupled ones have another form than they should
abbrev pub is_wrong_count : ℕ → Form (List ℕ) → Bool
is_wrong_count couples Absent = false
is_wrong_count couples Wrong = true
is_wrong_count couples (Is numbers) = not (fit_couples couples numbers)

-- the spreads of a node have another form than they should
abbrev pub is_wrong_spread : List Node → ℕ → Bool
is_wrong_spread nodes node = is_wrong_count (length (couples_at nodes node)) (numbers_at nodes node (name_of MaxSpread))

-- the spread that the node states, in µV
abbrev pub stated_spread : List Node → ℕ → Option ℕ
stated_spread nodes node = slice_get (spreads_at nodes node) 0
