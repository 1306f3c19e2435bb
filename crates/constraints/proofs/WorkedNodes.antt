-- Rails' nodes whole, worked out by hand: their constraints, and the first of several faults.
use Rattle.std.specs.Prelude.{◌≡◌, ℕ, true, false, List, [], ◌∷◌, ◌++◌, None, Some, codes}
use Rattle.std.proofs.Common.{refl}
use Rattle.linear_range.specs.Values.{values}
use Rattle.load_modes.specs.declared.mode.Mode.TheVariants.{Idle}
use Rattle.board.proofs.Boards.{core_table, buck, fixed}
use Rattle.dts_tree.specs.Value.{Property}
use Rattle.dts_tree.specs.Tree.{Node}
use Rattle.constraints.specs.declared.prop.Prop.TheVariants as prop
use Rattle.constraints.specs.declared.fault.RailFault.TheVariants.{BadCells, OneBound, FixedRange, NoValueInside, BadMode, SuspendValue}
use Rattle.constraints.specs.Faults.{value_fault, rail_fault}
use Rattle.constraints.specs.Node.{times_at, constraints_at}
use Rattle.constraints.proofs.Trees.{numbers, number, text, flag, tree, state, with_modes, without_modes}

-- all that can be asked
abbrev asked : List (Property ℕ)
asked =
    text (codes "regulator-name") (codes "vdd_cpu")
    ∷ number (codes "regulator-min-microvolt") 1200000
    ∷ number (codes "regulator-max-microvolt") 2800000
    ∷ flag (codes "regulator-always-on")
    ∷ flag (codes "regulator-boot-on")
    ∷ flag (codes "regulator-allow-set-load")
    ∷ number (codes "regulator-system-load") 4000
    ∷ number (codes "regulator-ramp-delay") 12500
    ∷ number (codes "regulator-settling-time-us") 70
    ∷ number (codes "regulator-settling-time-up-us") 80
    ∷ number (codes "regulator-settling-time-down-us") 90
    ∷ number (codes "regulator-enable-ramp-delay") 300
    ∷ numbers (codes "regulator-allowed-modes") (2 ∷ 4 ∷ [])
    ∷ number (codes "regulator-initial-mode") 4
    ∷ number (codes "regulator-max-step-microvolt") 50000
    ∷ []

abbrev whole : List Node
whole = tree asked (state (codes "regulator-state-mem") (number (codes "regulator-suspend-microvolt") 1500000 ∷ flag (codes "regulator-off-in-suspend") ∷ []) ∷ [])

all_asked : constraints_at whole 3 with_modes
    ≡ record {
      bounds = Some (1200000, 2800000);
      always_on = true;
      boot_on = true;
      allow_load = true;
      system_load = 4000;
      times = record { ramp = 12500; settle = 70; up = 80; down = 90 };
      enable_ramp = 300;
      allowed = record { 0 = 6 };
      initial = Some Idle;
      max_step = 50000;
      sleeps = None ∷ Some (record { on = Some false; uv = Some 1500000 }) ∷ None ∷ [];
    }
all_asked = refl

all_good : rail_fault whole 3 4 with_modes false ≡ None
all_good = refl

nothing_asked : constraints_at (tree [] []) 3 without_modes
    ≡ record {
      bounds = None;
      always_on = false;
      boot_on = false;
      allow_load = false;
      system_load = 0;
      times = record { ramp = 0; settle = 0; up = 0; down = 0 };
      enable_ramp = 0;
      allowed = record { 0 = 0 };
      initial = None;
      max_step = 0;
      sleeps = None ∷ None ∷ None ∷ [];
    }
nothing_asked = refl

nothing_wrong : rail_fault (tree [] []) 3 4 with_modes false ≡ None
nothing_wrong = refl

times : times_at whole 3 ≡ record { ramp = 12500; settle = 70; up = 80; down = 90 }
times = refl

-- a rail that is always on alone, of the other node
other_node : (constraints_at whole 1 with_modes).always_on ≡ true
other_node = refl

other_boot : (constraints_at whole 1 with_modes).boot_on ≡ false
other_boot = refl

-- ---- the first of several faults

-- bounds without a value, a mode that is none, and a value for mem that is out of the table
abbrev bounds : ℕ → ℕ → List (Property ℕ)
bounds least greatest = number (codes "regulator-min-microvolt") least ∷ number (codes "regulator-max-microvolt") greatest ∷ []

abbrev modes : List (Property ℕ)
modes = numbers (codes "regulator-allowed-modes") (1 ∷ 3 ∷ []) ∷ []

abbrev faulty : List (Property ℕ) → List Node
faulty properties = tree properties (state (codes "regulator-state-mem") (number (codes "regulator-suspend-microvolt") 5 ∷ []) ∷ [])

suspend_alone : value_fault (faulty (bounds 1200000 1500000)) 3 4 with_modes false ≡ Some (SuspendValue 4)
suspend_alone = refl

suspend_without_bounds : value_fault (faulty []) 3 4 with_modes false ≡ Some (SuspendValue 4)
suspend_without_bounds = refl

mode_before_suspend : value_fault (faulty modes) 3 4 with_modes false ≡ Some (BadMode 4 3)
mode_before_suspend = refl

no_mode_field : value_fault (faulty modes) 3 4 without_modes false ≡ Some (SuspendValue 4)
no_mode_field = refl

bounds_before_mode : value_fault (faulty (bounds 1500001 1500001 ++ modes)) 3 4 with_modes false ≡ Some (NoValueInside 4)
bounds_before_mode = refl

one_bound_before_mode : value_fault (faulty (bounds 1500000 0 ++ modes)) 3 4 with_modes false ≡ Some (OneBound 4)
one_bound_before_mode = refl

fixed_range : value_fault (faulty (bounds 1200000 1500000)) 3 4 with_modes true ≡ Some (FixedRange 4)
fixed_range = refl

fixed_rail : value_fault (faulty (bounds 3300000 3300000)) 3 4 (fixed 3300000) true ≡ None
fixed_rail = refl

fixed_elsewhere : value_fault (faulty (bounds 3300000 3300000)) 3 4 (fixed 5000000) true ≡ Some (NoValueInside 4)
fixed_elsewhere = refl

form_before_values : rail_fault (faulty (text (codes "regulator-max-step-microvolt") [] ∷ bounds 1500000 0 ++ modes)) 3 4 with_modes false ≡ Some (BadCells 4 prop.MaxStep)
form_before_values = refl

values_alone : rail_fault (faulty (bounds 1500000 0 ++ modes)) 3 4 with_modes false ≡ Some (OneBound 4)
values_alone = refl

-- a table of ranges
ranged_between : rail_fault (tree (bounds 600001 606249) []) 3 4 (buck 1 core_table 0x7f) false ≡ Some (NoValueInside 4)
unfolding values
ranged_between = refl

ranged_good : rail_fault (tree (bounds 600001 606250) []) 3 4 (buck 1 core_table 0x7f) false ≡ None
unfolding values
ranged_good = refl
