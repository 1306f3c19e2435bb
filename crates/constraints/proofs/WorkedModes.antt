-- The modes of a rail's node, worked out by hand.
use Rattle.std.specs.Prelude.{◌≡◌, ℕ, List, [], ◌∷◌, None, Some, codes}
use Rattle.std.proofs.Common.{refl}
use Rattle.load_modes.specs.declared.mode.Mode.TheVariants.{Fast, Normal, Idle, Standby}
use Rattle.dts_tree.specs.Tree.{Node}
use Rattle.dts_nodes.specs.declared.form.Form.TheVariants.{Absent, Wrong, Is}
use Rattle.constraints.specs.ModeCells.{mode_of_number, mode_numbers, first_bad, bad_mode, set_of, named_modes, allowed_modes, initial_mode}
use Rattle.constraints.proofs.Trees.{numbers, number, flag, tree, with_modes, without_modes}

-- numbers of modes
fast : mode_of_number 1 ≡ Some Fast
fast = refl

normal : mode_of_number 2 ≡ Some Normal
normal = refl

idle : mode_of_number 4 ≡ Some Idle
idle = refl

standby : mode_of_number 8 ≡ Some Standby
standby = refl

zero_is_none : mode_of_number 0 ≡ None
zero_is_none = refl

two_at_once : mode_of_number 3 ≡ None
two_at_once = refl

greater : mode_of_number 16 ≡ None
greater = refl

-- a node that allows modes and names one for the start
abbrev moded : List ℕ → ℕ → List Node
moded allowed initial = tree (numbers (codes "regulator-allowed-modes") allowed ∷ number (codes "regulator-initial-mode") initial ∷ []) []

abbrev starting : ℕ → List Node
starting initial = tree (number (codes "regulator-initial-mode") initial ∷ []) []

in_order : mode_numbers (moded (4 ∷ 1 ∷ []) 2) 3 ≡ 4 ∷ 1 ∷ 2 ∷ []
in_order = refl

initial_alone : mode_numbers (starting 2) 3 ≡ 2 ∷ []
initial_alone = refl

no_numbers : mode_numbers (tree [] []) 3 ≡ []
no_numbers = refl

-- the first number that is no mode
all_good : first_bad (1 ∷ 2 ∷ 4 ∷ 8 ∷ []) ≡ None
all_good = refl

first_of_bad : first_bad (1 ∷ 3 ∷ 5 ∷ []) ≡ Some 3
first_of_bad = refl

good_modes : bad_mode (moded (1 ∷ 2 ∷ 4 ∷ []) 2) 3 with_modes ≡ None
good_modes = refl

bad_allowed : bad_mode (moded (1 ∷ 3 ∷ []) 5) 3 with_modes ≡ Some 3
bad_allowed = refl

bad_initial : bad_mode (moded (1 ∷ 2 ∷ []) 5) 3 with_modes ≡ Some 5
bad_initial = refl

bad_initial_alone : bad_mode (starting 0) 3 with_modes ≡ Some 0
bad_initial_alone = refl

not_looked_at : bad_mode (moded (1 ∷ 3 ∷ []) 5) 3 without_modes ≡ None
not_looked_at = refl

-- sets
of_none : set_of [] ≡ 0
of_none = refl

of_three : set_of (4 ∷ 1 ∷ 2 ∷ []) ≡ 7
of_three = refl

of_two : set_of (8 ∷ 2 ∷ []) ≡ 10
of_two = refl

named_twice : set_of (8 ∷ 8 ∷ []) ≡ 8
named_twice = refl

all_where_absent : named_modes Absent ≡ 15
all_where_absent = refl

all_where_wrong : named_modes Wrong ≡ 15
all_where_wrong = refl

those_named : named_modes (Is (1 ∷ 4 ∷ [])) ≡ 5
those_named = refl

-- of a rail
allowed : allowed_modes (moded (1 ∷ 2 ∷ []) 2) 3 with_modes ≡ record { 0 = 3 }
allowed = refl

all_allowed : allowed_modes (starting 2) 3 with_modes ≡ record { 0 = 15 }
all_allowed = refl

none_allowed : allowed_modes (tree (flag (codes "regulator-allowed-modes") ∷ []) []) 3 with_modes ≡ record { 0 = 0 }
none_allowed = refl

no_mode_field : allowed_modes (moded (1 ∷ 2 ∷ []) 2) 3 without_modes ≡ record { 0 = 0 }
no_mode_field = refl

initial : initial_mode (moded (1 ∷ 2 ∷ []) 2) 3 with_modes ≡ Some Normal
initial = refl

no_initial : initial_mode (tree [] []) 3 with_modes ≡ None
no_initial = refl

initial_not_looked_at : initial_mode (starting 2) 3 without_modes ≡ None
initial_not_looked_at = refl
