-- The bounds of a rail, worked out by hand.
use Rattle.std.specs.Prelude.{◌≡◌, ℕ, true, false, List, [], ◌∷◌, None, Some, codes}
use Rattle.std.proofs.Common.{refl}
use Rattle.linear_range.specs.Values.{values}
use Rattle.board.proofs.Boards.{core_table, usb_table}
use Rattle.dts_tree.specs.Value.{Property}
use Rattle.constraints.specs.declared.prop.Prop.TheVariants as prop
use Rattle.constraints.specs.declared.fault.RailFault.TheVariants.{OneBound, Reversed, FixedRange, NoValueInside}
use Rattle.constraints.specs.Bounds.{number_or_zero, least_bound, greatest_bound, given_bounds, bounds_at, is_one_bound, is_reversed, is_range, has_no_value_inside}
use Rattle.constraints.specs.Faults.{fault_of_bounds, bounds_fault}
use Rattle.constraints.proofs.Trees.{numbers, number, tree}

-- numbers
given : number_or_zero (tree (number (codes "regulator-system-load") 5000 ∷ []) []) 3 prop.SystemLoad ≡ 5000
given = refl

not_given : number_or_zero (tree (number (codes "regulator-system-load") 5000 ∷ []) []) 3 prop.MaxStep ≡ 0
not_given = refl

wrongly_given : number_or_zero (tree (numbers (codes "regulator-system-load") (5 ∷ 6 ∷ []) ∷ []) []) 3 prop.SystemLoad ≡ 0
wrongly_given = refl

-- the bounds of a node
abbrev bounded : ℕ → ℕ → List (Property ℕ)
bounded least greatest = number (codes "regulator-min-microvolt") least ∷ number (codes "regulator-max-microvolt") greatest ∷ []

least : least_bound (tree (bounded 1200000 3300000) []) 3 ≡ 1200000
least = refl

greatest : greatest_bound (tree (bounded 1200000 3300000) []) 3 ≡ 3300000
greatest = refl

both : bounds_at (tree (bounded 1200000 3300000) []) 3 ≡ Some (1200000, 3300000)
both = refl

none : bounds_at (tree [] []) 3 ≡ None
none = refl

zeros : bounds_at (tree (bounded 0 0) []) 3 ≡ None
zeros = refl

of_the_other_node : bounds_at (tree [] []) 1 ≡ Some (1200000, 0)
of_the_other_node = refl

from_zero : given_bounds 0 5 ≡ Some (0, 5)
from_zero = refl

to_zero : given_bounds 5 0 ≡ Some (5, 0)
to_zero = refl

-- one bound alone
greatest_alone : is_one_bound 0 5 ≡ true
greatest_alone = refl

least_alone : is_one_bound 5 0 ≡ true
least_alone = refl

no_bound : is_one_bound 0 0 ≡ false
no_bound = refl

two_bounds : is_one_bound 5 6 ≡ false
two_bounds = refl

-- the order of the bounds
reversed : is_reversed 6 5 ≡ true
reversed = refl

equal : is_reversed 5 5 ≡ false
equal = refl

rising : is_reversed 5 6 ≡ false
rising = refl

range_up : is_range 5 6 ≡ true
range_up = refl

range_down : is_range 6 5 ≡ true
range_down = refl

no_range : is_range 5 5 ≡ false
no_range = refl

-- the values of a table of ranges: 600000 + 6250·s, s 0..127
without_bounds : has_no_value_inside None core_table ≡ false
without_bounds = refl

at_a_value : has_no_value_inside (Some (606250, 606250)) core_table ≡ false
unfolding values
at_a_value = refl

between_values : has_no_value_inside (Some (600001, 606249)) core_table ≡ true
unfolding values
between_values = refl

below_all : has_no_value_inside (Some (0, 599999)) core_table ≡ true
unfolding values
below_all = refl

up_to_the_first : has_no_value_inside (Some (0, 600000)) core_table ≡ false
unfolding values
up_to_the_first = refl

from_the_last : has_no_value_inside (Some (1393750, 1500000)) core_table ≡ false
unfolding values
from_the_last = refl

above_all : has_no_value_inside (Some (1393751, 1500000)) core_table ≡ true
unfolding values
above_all = refl

-- and of a list
listed : has_no_value_inside (Some (1400000, 1500000)) usb_table ≡ false
listed = refl

not_listed : has_no_value_inside (Some (1500001, 1799999)) usb_table ≡ true
not_listed = refl

-- ---- what is wrong with the bounds of rail 4, first of a rail that isn't fixed

good_range : fault_of_bounds 4 1200000 1500000 usb_table false ≡ None
good_range = refl

good_value : fault_of_bounds 4 1500000 1500000 usb_table false ≡ None
good_value = refl

no_bounds : fault_of_bounds 4 0 0 usb_table false ≡ None
no_bounds = refl

one_bound : fault_of_bounds 4 0 1500000 usb_table false ≡ Some (OneBound 4)
one_bound = refl

one_bound_first : fault_of_bounds 4 1500000 0 usb_table false ≡ Some (OneBound 4)
one_bound_first = refl

reversed_first : fault_of_bounds 4 1500000 1200000 usb_table false ≡ Some (Reversed 4)
reversed_first = refl

no_value : fault_of_bounds 4 1500001 1500002 usb_table false ≡ Some (NoValueInside 4)
no_value = refl

no_equal_value : fault_of_bounds 4 1500001 1500001 usb_table false ≡ Some (NoValueInside 4)
no_equal_value = refl

-- then of a fixed one
fixed_value : fault_of_bounds 4 1500000 1500000 usb_table true ≡ None
fixed_value = refl

fixed_without_bounds : fault_of_bounds 4 0 0 usb_table true ≡ None
fixed_without_bounds = refl

fixed_range : fault_of_bounds 4 1200000 1500000 usb_table true ≡ Some (FixedRange 4)
fixed_range = refl

fixed_reversed : fault_of_bounds 4 1500000 1200000 usb_table true ≡ Some (FixedRange 4)
fixed_reversed = refl

fixed_one_bound : fault_of_bounds 4 1500000 0 usb_table true ≡ Some (FixedRange 4)
fixed_one_bound = refl

fixed_range_first : fault_of_bounds 4 1500001 1500002 usb_table true ≡ Some (FixedRange 4)
fixed_range_first = refl

fixed_between : fault_of_bounds 4 1500001 1500001 usb_table true ≡ Some (NoValueInside 4)
fixed_between = refl

-- and of a node
node_reversed : bounds_fault (tree (bounded 1500000 1200000) []) 3 4 usb_table false ≡ Some (Reversed 4)
node_reversed = refl

node_good : bounds_fault (tree (bounded 1200000 1500000) []) 3 4 usb_table false ≡ None
node_good = refl
