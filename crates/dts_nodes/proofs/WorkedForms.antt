-- Forms of properties worked out by hand, on a node with one property of each kind.
use Rattle.std.proofs.Common.{◌≡◌, ℕ, true, false, List, [], ◌∷◌, Some, None, refl}
use Rattle.std.specs.Prelude.{codes}
use Rattle.dts_tree.specs.declared.value.Cell.TheVariants.{Num, Node as Reference}
use Rattle.dts_tree.specs.Value.{Cells, Text, Bytes, Whole}
use Rattle.dts_tree.specs.Tree.{Node}
use Rattle.dts_nodes.specs.declared.form.Form.TheVariants.{Absent, Wrong, Is}
use Rattle.dts_nodes.specs.Firsts.{first_of, when}
use Rattle.dts_nodes.specs.Forms.{number_at, numbers_at, cell_at, cells_at, first_string_at, is_wrong, is_or, told_by}

-- one = <7>; two = <1>, <2>; none = <>; empty; ref = <&n>; mixed = <1 &n>; name = "core", "cpu"; odd = "core", <1>; raw = [07]; whole = &n
abbrev some : List Node
some =
    record {
      name = [];
      parent = None;
      at = 0;
      properties =
          record { name = codes "one"; parts = Cells (Num 7 ∷ []) ∷ [] }
          ∷ record { name = codes "two"; parts = Cells (Num 1 ∷ []) ∷ Cells (Num 2 ∷ []) ∷ [] }
          ∷ record { name = codes "none"; parts = Cells [] ∷ [] }
          ∷ record { name = codes "empty"; parts = [] }
          ∷ record { name = codes "ref"; parts = Cells (Reference 1 ∷ []) ∷ [] }
          ∷ record { name = codes "mixed"; parts = Cells (Num 1 ∷ Reference 1 ∷ []) ∷ [] }
          ∷ record { name = codes "name"; parts = Text (codes "core") ∷ Text (codes "cpu") ∷ [] }
          ∷ record { name = codes "odd"; parts = Text (codes "core") ∷ Cells (Num 1 ∷ []) ∷ [] }
          ∷ record { name = codes "raw"; parts = Bytes (7 ∷ []) ∷ [] }
          ∷ record { name = codes "whole"; parts = Whole 1 ∷ [] }
          ∷ [];
    }
    ∷ record { name = codes "n"; parent = Some 0; at = 9; properties = record { name = codes "one"; parts = Cells (Num 8 ∷ []) ∷ [] } ∷ [] }
    ∷ []

one_number : number_at some 0 (codes "one") ≡ Is 7
one_number = refl

of_the_other_node : number_at some 1 (codes "one") ≡ Is 8
of_the_other_node = refl

not_there : number_at some 1 (codes "two") ≡ Absent
not_there = refl

two_are_not_one : number_at some 0 (codes "two") ≡ Wrong
two_are_not_one = refl

no_cell_is_no_number : number_at some 0 (codes "none") ≡ Wrong
no_cell_is_no_number = refl

a_reference_is_no_number : number_at some 0 (codes "ref") ≡ Wrong
a_reference_is_no_number = refl

bytes_are_no_number : number_at some 0 (codes "raw") ≡ Wrong
bytes_are_no_number = refl

all_numbers : numbers_at some 0 (codes "two") ≡ Is (1 ∷ 2 ∷ [])
all_numbers = refl

no_numbers : numbers_at some 0 (codes "none") ≡ Is []
no_numbers = refl

without_a_value : numbers_at some 0 (codes "empty") ≡ Is []
without_a_value = refl

a_reference_among_numbers : numbers_at some 0 (codes "mixed") ≡ Wrong
a_reference_among_numbers = refl

one_cell : cell_at some 0 (codes "ref") ≡ Is (Reference 1)
one_cell = refl

one_number_is_a_cell : cell_at some 0 (codes "one") ≡ Is (Num 7)
one_number_is_a_cell = refl

two_cells_are_not_one : cell_at some 0 (codes "mixed") ≡ Wrong
two_cells_are_not_one = refl

no_cell_is_not_one : cell_at some 0 (codes "none") ≡ Wrong
no_cell_is_not_one = refl

a_whole_reference_is_no_cell : cell_at some 0 (codes "whole") ≡ Wrong
a_whole_reference_is_no_cell = refl

all_cells : cells_at some 0 (codes "mixed") ≡ Is (Num 1 ∷ Reference 1 ∷ [])
all_cells = refl

strings_are_no_cells : cells_at some 0 (codes "name") ≡ Wrong
strings_are_no_cells = refl

the_first_string : first_string_at some 0 (codes "name") ≡ Is (codes "core")
the_first_string = refl

strings_alone : first_string_at some 0 (codes "odd") ≡ Wrong
strings_alone = refl

no_string : first_string_at some 0 (codes "empty") ≡ Wrong
no_string = refl

wrong_alone : (is_wrong (number_at some 0 (codes "two")) ≡ true) × (is_wrong (number_at some 0 (codes "one")) ≡ false) × (is_wrong (number_at some 1 (codes "two")) ≡ false)
wrong_alone = (refl, refl, refl)

what_is_told : (is_or 5 (number_at some 0 (codes "one")) ≡ 7) × (is_or 5 (number_at some 0 (codes "two")) ≡ 5) × (is_or 5 (number_at some 1 (codes "two")) ≡ 5)
what_is_told = (refl, refl, refl)

told_where_it_is : (told_by (number_at some 0 (codes "one")) ≡ Some 7) × (told_by (number_at some 0 (codes "two")) ≡ None) × (told_by (number_at some 1 (codes "two")) ≡ None)
told_where_it_is = (refl, refl, refl)

the_first_told : (first_of {A = ℕ} (None ∷ Some 3 ∷ Some 4 ∷ []) ≡ Some 3) × (first_of {A = ℕ} (None ∷ None ∷ []) ≡ None)
the_first_told = (refl, refl)

if_it_holds : (when {A = ℕ} true 3 ≡ Some 3) × (when {A = ℕ} false 3 ≡ None)
if_it_holds = (refl, refl)
