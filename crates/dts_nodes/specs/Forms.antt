-- The properties of a node in the forms that a board asks for.
use Rattle.std.specs.Prelude.{ℕ, Bool, true, false, List, [], ◌∷◌, Option, Some, None, slice_get}
use Rattle.std.specs.Option.{option_map, option_and_then}
use Rattle.dts_tree.specs.declared.value.Cell.{Cell}
use Rattle.dts_tree.specs.declared.value.Cell.TheVariants.{Num, Node as Reference}
use Rattle.dts_tree.specs.Value.{Part, Property}
use Rattle.dts_tree.specs.Tree.{Node}
use Rattle.dts_tree.specs.Look.{cells_of, strings_of, only_number, property_at}
use Rattle.dts_nodes.specs.declared.form.Form.{Form}
use Rattle.dts_nodes.specs.declared.form.Form.TheVariants.{Absent, Wrong, Is}

-- what is read, or another form
abbrev pub read_or_wrong : {A : Type 0} → Option A → Form A
read_or_wrong None = Wrong
read_or_wrong (Some read) = Is read

-- a property that lacks the parts that are asked for: it has another form, or isn't there
abbrev pub missing : {A : Type 0} → Option (Property ℕ) → Form A
missing None = Absent
missing (Some property) = Wrong

-- a property in the form that the reader of its parts asks for
abbrev pub form_by : {A : Type 0} → (List (Part ℕ) → Option A) → Option (Property ℕ) → Form A
form_by read None = Absent
form_by read (Some property) = read_or_wrong (read property.parts)

-- the numbers that cells are, unless one is a reference
abbrev pub numbers_of : List (Cell ℕ) → Option (List ℕ)
numbers_of [] = Some []
numbers_of (Num n ∷ cells) = option_map (λ numbers. n ∷ numbers) (numbers_of cells)
numbers_of (Reference node ∷ cells) = None

-- the one number of a node's property
abbrev pub number_at : List Node → ℕ → List ℕ → Form ℕ
number_at nodes node name = form_by (λ parts. option_and_then only_number (cells_of parts)) (property_at nodes node name)

-- the only cell
abbrev pub only_cell : List (Cell ℕ) → Option (Cell ℕ)
only_cell [] = None
only_cell (cell ∷ []) = Some cell
only_cell (cell ∷ other ∷ cells) = None

-- the one cell of a node's property
abbrev pub cell_at : List Node → ℕ → List ℕ → Form (Cell ℕ)
cell_at nodes node name = form_by (λ parts. option_and_then only_cell (cells_of parts)) (property_at nodes node name)

-- the numbers of a node's property
abbrev pub numbers_at : List Node → ℕ → List ℕ → Form (List ℕ)
numbers_at nodes node name = form_by (λ parts. option_and_then numbers_of (cells_of parts)) (property_at nodes node name)

-- the cells of a node's property
abbrev pub cells_at : List Node → ℕ → List ℕ → Form (List (Cell ℕ))
cells_at nodes node name = form_by cells_of (property_at nodes node name)

-- the first of the strings of a node's property
abbrev pub first_string_at : List Node → ℕ → List ℕ → Form (List ℕ)
first_string_at nodes node name = form_by (λ parts. option_and_then (λ strings. slice_get strings 0) (strings_of parts)) (property_at nodes node name)

-- the property is there in another form
abbrev pub is_wrong : {A : Type 0} → Form A → Bool
is_wrong Absent = false
is_wrong Wrong = true
is_wrong (Is read) = false

-- what the property says, or else this
abbrev pub is_or : {A : Type 0} → A → Form A → A
is_or other Absent = other
is_or other Wrong = other
is_or other (Is read) = read

-- what the property says, where it has the form
abbrev pub told_by : {A : Type 0} → Form A → Option A
told_by Absent = None
told_by Wrong = None
told_by (Is read) = Some read

-- a fact of what the property says, where it has the form
abbrev pub IfIs : {A : Type 0} → Form A → (A → Type 0) → Type 0
IfIs Absent P = Unit {0}
IfIs Wrong P = Unit {0}
IfIs (Is read) P = P read
