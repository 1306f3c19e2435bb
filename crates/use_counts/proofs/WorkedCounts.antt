-- The counts of rails and the names of workers, worked out by hand: two workers with three handles.
use Rattle.std.specs.Prelude.{◌≡◌, ℕ, true, false, List, [], ◌∷◌, Some, None, position}
use Rattle.std.proofs.Common.{refl}
use Rattle.arrayvec.specs.ArrayString.{ArrayString}
use Rattle.use_counts.specs.declared.handle_row.HandleRow.{HandleRow}
use Rattle.use_counts.specs.Counts.{enables_of, drawn, drawn_by, uses_of}
use Rattle.use_counts.specs.Uses.{is_row_of, rail_named}

-- `a` and `ab`
abbrev a : List ℕ
a = 97 ∷ []

abbrev ab : List ℕ
ab = 97 ∷ 98 ∷ []

abbrev text : List ℕ → ArrayString
text bytes = record { bytes = bytes; spare = [] }

abbrev row_with : ℕ → List ℕ → ℕ → ℕ → HandleRow
row_with worker name enables load = record {
  worker = worker;
  handle = text name;
  enables = enables;
  request = None;
  load = load;
  cursor = None;
  exclusive = false;
}

-- one worker has a handle `a` with two enables and one `ab` with a load and no enable, another has a handle `a` with one
abbrev first : HandleRow
first = row_with 1 a 2 300

abbrev second : HandleRow
second = row_with 1 ab 0 5000

abbrev third : HandleRow
third = row_with 2 a 1 40

abbrev three : List HandleRow
three = first ∷ second ∷ third ∷ []

-- all enables count
enables_of_three : enables_of three ≡ 3
enables_of_three = refl

enables_of_one : enables_of (first ∷ []) ≡ 2
enables_of_one = refl

enables_of_none : enables_of [] ≡ 0
enables_of_none = refl

-- a handle draws its load once, however many enables it has, and nothing while it has none
drawn_by_two_enables : drawn first ≡ 300
drawn_by_two_enables = refl

drawn_by_one_enable : drawn third ≡ 40
drawn_by_one_enable = refl

drawn_by_no_enable : drawn second ≡ 0
drawn_by_no_enable = refl

drawn_by_three : drawn_by three ≡ 340
drawn_by_three = refl

drawn_by_none : drawn_by [] ≡ 0
drawn_by_none = refl

-- the enables, one for the hold, and the votes
uses_held : uses_of three true 4 ≡ 8
uses_held = refl

uses_not_held : uses_of three false 4 ≡ 7
uses_not_held = refl

uses_of_the_hold : uses_of [] true 0 ≡ 1
uses_of_the_hold = refl

uses_of_nothing : uses_of [] false 0 ≡ 0
uses_of_nothing = refl

-- a row is told by its worker and its name together
its_row : is_row_of 2 a third ≡ true
its_row = refl

row_of_another_worker : is_row_of 1 a third ≡ false
row_of_another_worker = refl

row_of_another_name : is_row_of 1 a second ≡ false
row_of_another_name = refl

row_of_a_longer_name : is_row_of 1 ab first ≡ false
row_of_a_longer_name = refl

row_of_another : is_row_of 2 ab first ≡ false
row_of_another = refl

place_of_third : position (is_row_of 2 a) three ≡ Some 2
place_of_third = refl

place_of_none : position (is_row_of 2 ab) three ≡ None
place_of_none = refl

-- two names on two rails
abbrev names : List (List ℕ × ℕ)
names = (a, 7) ∷ (ab, 0) ∷ []

rail_of_first : rail_named names a ≡ Some 7
rail_of_first = refl

rail_of_second : rail_named names ab ≡ Some 0
rail_of_second = refl

rail_of_a_name_that_is_not_open : rail_named names (98 ∷ []) ≡ None
rail_of_a_name_that_is_not_open = refl

rail_of_the_beginning_of_a_name : rail_named ((ab, 3) ∷ []) a ≡ None
rail_of_the_beginning_of_a_name = refl

rail_where_none_is_open : rail_named [] a ≡ None
rail_where_none_is_open = refl
