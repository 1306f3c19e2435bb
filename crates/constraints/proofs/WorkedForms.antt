-- The forms of a rail's properties, worked out by hand.
use Rattle.std.specs.Prelude.{◌≡◌, ℕ, true, false, List, [], ◌∷◌, Option, None, Some, codes}
use Rattle.std.proofs.Common.{refl}
use Rattle.dts_tree.specs.declared.value.Cell.TheVariants as cell
use Rattle.dts_tree.specs.Value.{Cells, Text, Bytes, Whole, Property}
use Rattle.dts_tree.proofs.WorkedTrees.{property}
use Rattle.constraints.specs.declared.prop.Prop.{Prop}
use Rattle.constraints.specs.declared.prop.Prop.TheVariants as prop
use Rattle.constraints.specs.declared.fault.RailFault.TheVariants.{BadCells}
use Rattle.constraints.specs.Prop.{name_of}
use Rattle.constraints.specs.Faults.{is_no_number, first_wrong, wrong_form, form_fault}
use Rattle.constraints.proofs.Trees.{numbers, number, text, flag, tree, state, with_modes, without_modes}

-- what is found wrong with one property alone
abbrev alone : Property ℕ → Option Prop
alone given = wrong_form (tree (given ∷ []) []) 3 with_modes

-- a node without properties
nothing_given : wrong_form (tree [] []) 3 with_modes ≡ None
nothing_given = refl

-- names
named : alone (text (codes "regulator-name") (codes "vdd")) ≡ None
named = refl

named_twice : alone (property (codes "regulator-name") (Text (codes "a") ∷ Text (codes "b") ∷ [])) ≡ None
named_twice = refl

name_without_strings : alone (flag (codes "regulator-name")) ≡ Some prop.Name
name_without_strings = refl

name_and_number : alone (property (codes "regulator-name") (Text (codes "a") ∷ Cells (cell.Num 1 ∷ []) ∷ [])) ≡ Some prop.Name
name_and_number = refl

-- one number
one_number : alone (number (codes "regulator-min-microvolt") 1200000) ≡ None
one_number = refl

one_number_of_two_parts : alone (property (codes "regulator-min-microvolt") (Cells [] ∷ Cells (cell.Num 5 ∷ []) ∷ [])) ≡ None
one_number_of_two_parts = refl

no_number : alone (flag (codes "regulator-min-microvolt")) ≡ Some prop.MinMicrovolt
no_number = refl

two_numbers : alone (numbers (codes "regulator-min-microvolt") (5 ∷ 5 ∷ [])) ≡ Some prop.MinMicrovolt
two_numbers = refl

two_parts : alone (property (codes "regulator-min-microvolt") (Cells (cell.Num 5 ∷ []) ∷ Cells (cell.Num 5 ∷ []) ∷ [])) ≡ Some prop.MinMicrovolt
two_parts = refl

reference : alone (property (codes "regulator-min-microvolt") (Cells (cell.Node 1 ∷ []) ∷ [])) ≡ Some prop.MinMicrovolt
reference = refl

string : alone (text (codes "regulator-min-microvolt") (codes "5")) ≡ Some prop.MinMicrovolt
string = refl

bytes : alone (property (codes "regulator-min-microvolt") (Bytes (0 ∷ 0 ∷ 0 ∷ 5 ∷ []) ∷ [])) ≡ Some prop.MinMicrovolt
bytes = refl

path : alone (property (codes "regulator-min-microvolt") (Whole 1 ∷ [])) ≡ Some prop.MinMicrovolt
path = refl

-- modes
no_modes : alone (flag (codes "regulator-allowed-modes")) ≡ None
no_modes = refl

some_modes : alone (numbers (codes "regulator-allowed-modes") (1 ∷ 2 ∷ 3 ∷ [])) ≡ None
some_modes = refl

mode_by_reference : alone (property (codes "regulator-allowed-modes") (Cells (cell.Num 1 ∷ cell.Node 1 ∷ []) ∷ [])) ≡ Some prop.AllowedModes
mode_by_reference = refl

two_initial_modes : alone (numbers (codes "regulator-initial-mode") (1 ∷ 2 ∷ [])) ≡ Some prop.InitialMode
two_initial_modes = refl

modes_not_looked_at : wrong_form (tree (text (codes "regulator-allowed-modes") [] ∷ text (codes "regulator-initial-mode") [] ∷ []) []) 3 without_modes ≡ None
modes_not_looked_at = refl

-- coupled rails
coupled_with_none : alone (flag (codes "regulator-coupled-with")) ≡ None
coupled_with_none = refl

coupled_by_both : alone (property (codes "regulator-coupled-with") (Cells (cell.Num 7 ∷ cell.Node 1 ∷ []) ∷ [])) ≡ None
coupled_by_both = refl

coupled_by_name : alone (text (codes "regulator-coupled-with") (codes "buck1")) ≡ Some prop.CoupledWith
coupled_by_name = refl

-- a suspended board
abbrev mem : List (Property ℕ) → Option Prop
mem properties = wrong_form (tree [] (state (codes "regulator-state-mem") properties ∷ [])) 3 with_modes

mem_with_value : mem (number (codes "regulator-suspend-microvolt") 5 ∷ []) ≡ None
mem_with_value = refl

mem_without_value : mem [] ≡ None
mem_without_value = refl

mem_with_two : mem (numbers (codes "regulator-suspend-microvolt") (5 ∷ 5 ∷ []) ∷ []) ≡ Some prop.SuspendMicrovolt
mem_with_two = refl

mem_disabled : mem (numbers (codes "regulator-suspend-microvolt") (5 ∷ 5 ∷ []) ∷ text (codes "status") (codes "disabled") ∷ []) ≡ None
mem_disabled = refl

-- Of several the first in order, whatever the order in the node: each of these has one more that is wrong.
abbrev asleep : List (Property ℕ) → Option Prop
asleep properties = wrong_form (tree properties (state (codes "regulator-state-disk") (flag (codes "regulator-suspend-microvolt") ∷ []) ∷ [])) 3 with_modes

abbrev from_spread : List (Property ℕ)
from_spread = text (codes "regulator-coupled-max-spread") [] ∷ []

abbrev from_couples : List (Property ℕ)
from_couples = text (codes "regulator-coupled-with") [] ∷ from_spread

abbrev from_initial : List (Property ℕ)
from_initial = text (codes "regulator-initial-mode") [] ∷ from_couples

abbrev from_allowed : List (Property ℕ)
from_allowed = text (codes "regulator-allowed-modes") [] ∷ from_initial

abbrev from_step : List (Property ℕ)
from_step = text (codes "regulator-max-step-microvolt") [] ∷ from_allowed

abbrev from_down : List (Property ℕ)
from_down = text (codes "regulator-settling-time-down-us") [] ∷ from_step

abbrev from_up : List (Property ℕ)
from_up = text (codes "regulator-settling-time-up-us") [] ∷ from_down

abbrev from_settling : List (Property ℕ)
from_settling = text (codes "regulator-settling-time-us") [] ∷ from_up

abbrev from_enable : List (Property ℕ)
from_enable = text (codes "regulator-enable-ramp-delay") [] ∷ from_settling

abbrev from_ramp : List (Property ℕ)
from_ramp = text (codes "regulator-ramp-delay") [] ∷ from_enable

abbrev from_load : List (Property ℕ)
from_load = text (codes "regulator-system-load") [] ∷ from_ramp

abbrev from_max : List (Property ℕ)
from_max = text (codes "regulator-max-microvolt") [] ∷ from_load

abbrev from_min : List (Property ℕ)
from_min = text (codes "regulator-min-microvolt") [] ∷ from_max

abbrev from_name : List (Property ℕ)
from_name = flag (codes "regulator-name") ∷ from_min

first_suspend : asleep [] ≡ Some prop.SuspendMicrovolt
first_suspend = refl

first_spread : asleep from_spread ≡ Some prop.MaxSpread
first_spread = refl

first_couples : asleep from_couples ≡ Some prop.CoupledWith
first_couples = refl

first_initial : asleep from_initial ≡ Some prop.InitialMode
first_initial = refl

first_allowed : asleep from_allowed ≡ Some prop.AllowedModes
first_allowed = refl

first_step : asleep from_step ≡ Some prop.MaxStep
first_step = refl

first_down : asleep from_down ≡ Some prop.SettlingTimeDown
first_down = refl

first_up : asleep from_up ≡ Some prop.SettlingTimeUp
first_up = refl

first_settling : asleep from_settling ≡ Some prop.SettlingTime
first_settling = refl

first_enable : asleep from_enable ≡ Some prop.EnableRampDelay
first_enable = refl

first_ramp : asleep from_ramp ≡ Some prop.RampDelay
first_ramp = refl

first_load : asleep from_load ≡ Some prop.SystemLoad
first_load = refl

first_max : asleep from_max ≡ Some prop.MaxMicrovolt
first_max = refl

first_min : asleep from_min ≡ Some prop.MinMicrovolt
first_min = refl

first_name : asleep from_name ≡ Some prop.Name
first_name = refl

-- the properties themselves are looked for, and not those of the node before
other_node : wrong_form (tree from_name []) 1 with_modes ≡ None
other_node = refl

-- what the test of one number says, and the first of a list
is_one : is_no_number (tree (number (codes "regulator-ramp-delay") 5 ∷ []) []) 3 prop.RampDelay ≡ false
is_one = refl

is_none : is_no_number (tree (flag (codes "regulator-ramp-delay") ∷ []) []) 3 prop.RampDelay ≡ true
is_none = refl

first_of_two : first_wrong ((prop.Name, false) ∷ (prop.MaxStep, true) ∷ (prop.RampDelay, true) ∷ []) ≡ Some prop.MaxStep
first_of_two = refl

first_of_none : first_wrong ((prop.Name, false) ∷ []) ≡ None
first_of_none = refl

-- the end of a supply's name
supply_name : name_of prop.Supply ≡ codes "-supply"
supply_name = refl

-- as a fault of a rail
fault : form_fault (tree from_max []) 3 5 with_modes ≡ Some (BadCells 5 prop.MaxMicrovolt)
fault = refl

no_fault : form_fault (tree [] []) 3 5 with_modes ≡ None
no_fault = refl
