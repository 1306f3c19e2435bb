-- Why a rail's node is refused: the first of these that holds.
use Rattle.std.specs.Prelude.{ℕ, Bool, not, ◌&&◌, List, [], ◌∷◌, ◌++◌, map, find, Option}
use Rattle.std.specs.Option.{is_some, option_map, option_or}
use Rattle.board.specs.declared.desc.Desc.{Desc}
use Rattle.board.specs.declared.table.Table.{Table}
use Rattle.dts_tree.specs.Tree.{Node}
use Rattle.dts_nodes.specs.Firsts.{first_of, when}
use Rattle.dts_nodes.specs.Forms.{number_at, numbers_at, cells_at, first_string_at, is_wrong}
use Rattle.constraints.specs.declared.prop.Prop.{Prop}
use Rattle.constraints.specs.declared.prop.Prop.TheVariants as prop
use Rattle.constraints.specs.declared.fault.RailFault.{RailFault}
use Rattle.constraints.specs.declared.fault.RailFault.TheVariants.{BadCells, OneBound, Reversed, FixedRange, NoValueInside, BadMode, SuspendValue}
use Rattle.constraints.specs.Prop.{name_of}
use Rattle.constraints.specs.Bounds.{least_bound, greatest_bound, given_bounds, is_one_bound, is_reversed, is_range, has_no_value_inside}
use Rattle.constraints.specs.ModeCells.{bad_mode}
use Rattle.constraints.specs.Coupling.{is_wrong_spread}
use Rattle.constraints.specs.Sleeps.{has_wrong_suspend, has_bad_suspend}

-- a property of one number has another form
abbrev pub is_no_number : List Node → ℕ → Prop → Bool
is_no_number nodes node property = is_wrong (number_at nodes node (name_of property))

-- the properties of one number that each rail may have, in the order in which they are looked at
abbrev pub number_props : List Prop
number_props =
    prop.MinMicrovolt ∷ prop.MaxMicrovolt ∷ prop.SystemLoad ∷ prop.RampDelay ∷ prop.EnableRampDelay ∷ prop.SettlingTime
    ∷ prop.SettlingTimeUp ∷ prop.SettlingTimeDown ∷ prop.MaxStep ∷ []

-- of each of these, whether it has another form than one number
abbrev pub number_forms : List Node → ℕ → List Prop → List (Prop × Bool)
number_forms nodes node properties = map (λ property. (property, is_no_number nodes node property)) properties

-- the same of the modes; of a rail without a mode field they aren't looked at
abbrev pub mode_forms : List Node → ℕ → Desc → List (Prop × Bool)
mode_forms nodes node desc =
    (prop.AllowedModes, is_some desc.modes && is_wrong (numbers_at nodes node (name_of prop.AllowedModes)))
    ∷ (prop.InitialMode, is_some desc.modes && is_no_number nodes node prop.InitialMode)
    ∷ []

-- the same of what couples the rail with others
abbrev pub coupling_forms : List Node → ℕ → List (Prop × Bool)
coupling_forms nodes node =
    (prop.CoupledWith, is_wrong (cells_at nodes node (name_of prop.CoupledWith)))
    ∷ (prop.MaxSpread, is_wrong_spread nodes node)
    ∷ []

-- of each property in order, whether it has another form than it should
abbrev pub forms : List Node → ℕ → Desc → List (Prop × Bool)
forms nodes node desc =
    (prop.Name, is_wrong (first_string_at nodes node (name_of prop.Name)))
    ∷ number_forms nodes node number_props
    ++ mode_forms nodes node desc
    ++ coupling_forms nodes node
    ++ (prop.SuspendMicrovolt, has_wrong_suspend nodes node) ∷ []

-- the first property that has another form than it should
abbrev pub first_wrong : List (Prop × Bool) → Option Prop
first_wrong forms = option_map (λ (form : Prop × Bool). form.0) (find (λ form. form.1) forms)

-- the first of a rail's node
abbrev pub wrong_form : List Node → ℕ → Desc → Option Prop
wrong_form nodes node desc = first_wrong (forms nodes node desc)

-- what is wrong with the forms of rail r's node
abbrev pub form_fault : List Node → ℕ → ℕ → Desc → Option RailFault
form_fault nodes node r desc = option_map (λ property. BadCells r property) (wrong_form nodes node desc)

-- what is wrong with the bounds of rail r; a fixed rail has one value
abbrev pub fault_of_bounds : ℕ → ℕ → ℕ → Table → Bool → Option RailFault
fault_of_bounds r least greatest table fixed =
    first_of (
    when (not fixed && is_one_bound least greatest) (OneBound r)
    ∷ when (not fixed && is_reversed least greatest) (Reversed r)
    ∷ when (fixed && is_range least greatest) (FixedRange r)
    ∷ when (has_no_value_inside (given_bounds least greatest) table) (NoValueInside r)
    ∷ [])

-- the same of rail r's node
abbrev pub bounds_fault : List Node → ℕ → ℕ → Table → Bool → Option RailFault
bounds_fault nodes node r table fixed = fault_of_bounds r (least_bound nodes node) (greatest_bound nodes node) table fixed

-- what is wrong with the values of rail r's node, whose forms are right
abbrev pub value_fault : List Node → ℕ → ℕ → Desc → Bool → Option RailFault
value_fault nodes node r desc fixed =
    first_of (
    bounds_fault nodes node r desc.table fixed
    ∷ option_map (λ n. BadMode r n) (bad_mode nodes node desc)
    ∷ when (has_bad_suspend nodes node desc) (SuspendValue r)
    ∷ [])

-- why rail r's node is refused
abbrev pub rail_fault : List Node → ℕ → ℕ → Desc → Bool → Option RailFault
rail_fault nodes node r desc fixed = option_or (form_fault nodes node r desc) (value_fault nodes node r desc fixed)
