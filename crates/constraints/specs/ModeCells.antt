-- The modes that a rail's node names by numbers.
use Rattle.std.specs.Prelude.{ℕ, not, List, [], ◌∷◌, ◌++◌, find, nat_eq, sum_by, option_to_list, Option, None, Some, if◌then◌else◌}
use Rattle.std.specs.List.{list_any}
use Rattle.std.specs.Option.{is_some, option_and_then}
use Rattle.load_modes.specs.declared.mode.Mode.{Mode}
use Rattle.load_modes.specs.declared.mode.Mode.TheVariants.{Fast, Normal, Idle, Standby}
use Rattle.load_modes.specs.declared.modes.Modes.{Modes}
use Rattle.board.specs.declared.desc.Desc.{Desc}
use Rattle.dts_tree.specs.Tree.{Node}
use Rattle.dts_nodes.specs.declared.form.Form.{Form}
use Rattle.dts_nodes.specs.declared.form.Form.TheVariants.{Absent, Wrong, Is}
use Rattle.dts_nodes.specs.Forms.{number_at, numbers_at, is_or, told_by}
use Rattle.constraints.specs.declared.prop.Prop.TheVariants.{AllowedModes, InitialMode}
use Rattle.constraints.specs.Prop.{name_of}

-- the mode of a number: 1 fast, 2 normal, 4 idle, 8 standby
abbrev pub mode_of_number : ℕ → Option Mode
mode_of_number n =
    if nat_eq n 1 then Some Fast
    else if nat_eq n 2 then Some Normal
    else if nat_eq n 4 then Some Idle
    else if nat_eq n 8 then Some Standby
    else None

-- the numbers of the allowed modes
abbrev pub allowed_numbers : List Node → ℕ → Form (List ℕ)
allowed_numbers nodes node = numbers_at nodes node (name_of AllowedModes)

-- the number of the mode at the start
abbrev pub initial_number : List Node → ℕ → Form ℕ
initial_number nodes node = number_at nodes node (name_of InitialMode)

-- the numbers of the allowed modes and of the initial mode, in this order
abbrev pub mode_numbers : List Node → ℕ → List ℕ
mode_numbers nodes node = is_or [] (allowed_numbers nodes node) ++ option_to_list (told_by (initial_number nodes node))

-- the first number that is no mode
abbrev pub first_bad : List ℕ → Option ℕ
first_bad numbers = find (λ n. not (is_some (mode_of_number n))) numbers

-- the first of a node's numbers that is no mode; a rail without a mode field has nothing to look at
abbrev pub bad_mode : List Node → ℕ → Desc → Option ℕ
bad_mode nodes node desc = if is_some desc.modes then first_bad (mode_numbers nodes node) else None

-- the set of the modes with these numbers
abbrev pub set_of : List ℕ → ℕ
set_of numbers = sum_by (λ bit. if list_any (λ n. nat_eq n bit) numbers then bit else 0) (1 ∷ 2 ∷ 4 ∷ 8 ∷ [])

-- all modes where none are named, else those that are
abbrev pub named_modes : Form (List ℕ) → ℕ
named_modes Absent = 15
named_modes Wrong = 15
named_modes (Is numbers) = set_of numbers

-- the modes that the rail may be in; one without a mode field has none
abbrev pub allowed_modes : List Node → ℕ → Desc → Modes
allowed_modes nodes node desc = record { 0 = if is_some desc.modes then named_modes (allowed_numbers nodes node) else 0 }

-- the mode at the start, where the rail has a mode field
abbrev pub initial_mode : List Node → ℕ → Desc → Option Mode
initial_mode nodes node desc = if is_some desc.modes then option_and_then mode_of_number (told_by (initial_number nodes node)) else None
