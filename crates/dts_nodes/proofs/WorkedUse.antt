-- Nodes in use worked out by hand: / { a { b { }; }; c { status = "disabled"; d { status = "okay"; }; }; e { status = "ok"; }; }
use Rattle.std.proofs.Common.{◌≡◌, ℕ, true, false, List, [], ◌∷◌, Option, Some, None, refl}
use Rattle.std.specs.Prelude.{codes}
use Rattle.dts_tree.specs.declared.value.Cell.TheVariants.{Num}
use Rattle.dts_tree.specs.Value.{Part, Property, Cells, Text}
use Rattle.dts_tree.specs.Tree.{Node}
use Rattle.dts_nodes.specs.Use.{strings_at, is_good, in_use, is_used, good_child_of, numbers_of_nodes}

abbrev node : List ℕ → Option ℕ → List (Property ℕ) → Node
node name parent properties = record { name = name; parent = parent; at = 0; properties = properties }

abbrev status : List (Part ℕ) → List (Property ℕ)
status parts = record { name = codes "status"; parts = parts } ∷ []

abbrev nodes : List Node
nodes =
    node [] None []
    ∷ node (codes "a") (Some 0) []
    ∷ node (codes "b") (Some 1) []
    ∷ node (codes "c") (Some 0) (status (Text (codes "disabled") ∷ []))
    ∷ node (codes "d") (Some 3) (status (Text (codes "okay") ∷ []))
    ∷ node (codes "e") (Some 0) (status (Text (codes "ok") ∷ []))
    ∷ []

those_in_use : in_use nodes ≡ true ∷ true ∷ true ∷ false ∷ false ∷ true ∷ []
those_in_use = refl

used_or_not : (is_used nodes 2 ≡ true) × (is_used nodes 4 ≡ false) × (is_used nodes 6 ≡ false)
used_or_not = (refl, refl, refl)

-- a node below one that isn't in use may be good by itself
good_by_itself : (is_good nodes 4 ≡ true) × (is_good nodes 3 ≡ false)
good_by_itself = (refl, refl)

numbers : numbers_of_nodes nodes ≡ 0 ∷ 1 ∷ 2 ∷ 3 ∷ 4 ∷ 5 ∷ []
numbers = refl

children : (good_child_of nodes 0 (codes "a") ≡ Some 1) × (good_child_of nodes 0 (codes "e") ≡ Some 5) × (good_child_of nodes 3 (codes "d") ≡ Some 4)
children = (refl, refl, refl)

no_children : (good_child_of nodes 0 (codes "b") ≡ None) × (good_child_of nodes 1 (codes "a") ≡ None) × (good_child_of nodes 0 (codes "c") ≡ None)
no_children = (refl, refl, refl)

abbrev lone : List (Part ℕ) → List Node
lone parts = node [] None (status parts) ∷ []

-- the root may be out of use, and all with it
abbrev out : List Node
out = node [] None (status (Text (codes "no") ∷ [])) ∷ node (codes "a") (Some 0) [] ∷ []

none_in_use : in_use out ≡ false ∷ false ∷ []
none_in_use = refl

two_strings : is_good (lone (Text (codes "okay") ∷ Text (codes "okay") ∷ [])) 0 ≡ false
two_strings = refl

no_string : is_good (lone []) 0 ≡ false
no_string = refl

a_number : is_good (lone (Cells (Num 1 ∷ []) ∷ [])) 0 ≡ false
a_number = refl

longer : is_good (lone (Text (codes "okays") ∷ [])) 0 ≡ false
longer = refl

its_strings : strings_at (lone (Text (codes "a") ∷ Text (codes "b") ∷ [])) 0 (codes "status") ≡ codes "a" ∷ codes "b" ∷ []
its_strings = refl

no_strings : (strings_at (lone (Text (codes "a") ∷ Cells [] ∷ [])) 0 (codes "status") ≡ []) × (strings_at (lone []) 0 (codes "name") ≡ [])
no_strings = (refl, refl)
