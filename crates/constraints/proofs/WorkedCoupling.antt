-- Coupled rails and their spread, worked out by hand.
use Rattle.std.specs.Prelude.{◌≡◌, ℕ, true, false, List, [], ◌∷◌, None, Some, codes}
use Rattle.std.proofs.Common.{refl}
use Rattle.dts_tree.specs.declared.value.Cell.{Cell}
use Rattle.dts_tree.specs.declared.value.Cell.TheVariants as cell
use Rattle.dts_tree.specs.Value.{Cells}
use Rattle.dts_tree.specs.Tree.{Node}
use Rattle.dts_tree.proofs.WorkedTrees.{property}
use Rattle.dts_nodes.specs.declared.form.Form.TheVariants.{Absent, Wrong, Is}
use Rattle.constraints.specs.Coupling.{couples_at, spreads_at, are_equal, fit_couples, is_wrong_count, is_wrong_spread, stated_spread}
use Rattle.constraints.proofs.Trees.{numbers, number, text, flag, tree}

-- a node that is coupled by these cells, and with these spreads
abbrev coupled : List (Cell ℕ) → List ℕ → List Node
coupled cells spreads = tree (property (codes "regulator-coupled-with") (Cells cells ∷ []) ∷ numbers (codes "regulator-coupled-max-spread") spreads ∷ []) []

by_cells : couples_at (coupled (cell.Node 1 ∷ cell.Num 7 ∷ []) []) 3 ≡ cell.Node 1 ∷ cell.Num 7 ∷ []
by_cells = refl

by_none : couples_at (tree [] []) 3 ≡ []
by_none = refl

by_text : couples_at (tree (text (codes "regulator-coupled-with") [] ∷ []) []) 3 ≡ []
by_text = refl

spreads : spreads_at (coupled [] (5 ∷ 6 ∷ [])) 3 ≡ 5 ∷ 6 ∷ []
spreads = refl

no_spreads : spreads_at (tree [] []) 3 ≡ []
no_spreads = refl

-- equal numbers
equal_none : are_equal [] ≡ true
equal_none = refl

equal_three : are_equal (5 ∷ 5 ∷ 5 ∷ []) ≡ true
equal_three = refl

unequal_last : are_equal (5 ∷ 5 ∷ 6 ∷ []) ≡ false
unequal_last = refl

-- as many as fit
none_for_none : fit_couples 0 [] ≡ true
none_for_none = refl

one_for_none : fit_couples 0 (5 ∷ []) ≡ true
one_for_none = refl

two_for_none : fit_couples 0 (5 ∷ 5 ∷ []) ≡ false
two_for_none = refl

none_for_one : fit_couples 1 [] ≡ false
none_for_one = refl

one_for_one : fit_couples 1 (5 ∷ []) ≡ true
one_for_one = refl

two_for_one : fit_couples 1 (5 ∷ 5 ∷ []) ≡ false
two_for_one = refl

none_for_two : fit_couples 2 [] ≡ false
none_for_two = refl

one_for_two : fit_couples 2 (5 ∷ []) ≡ true
one_for_two = refl

two_for_two : fit_couples 2 (5 ∷ 5 ∷ []) ≡ true
two_for_two = refl

unequal_for_two : fit_couples 2 (5 ∷ 6 ∷ []) ≡ false
unequal_for_two = refl

three_for_two : fit_couples 2 (5 ∷ 5 ∷ 5 ∷ []) ≡ false
three_for_two = refl

two_for_three : fit_couples 3 (5 ∷ 5 ∷ []) ≡ false
two_for_three = refl

absent : is_wrong_count 2 Absent ≡ false
absent = refl

wrong : is_wrong_count 2 Wrong ≡ true
wrong = refl

count : is_wrong_count 2 (Is (5 ∷ 6 ∷ [])) ≡ true
count = refl

-- of a node
right_spread : is_wrong_spread (coupled (cell.Node 1 ∷ cell.Num 7 ∷ []) (5 ∷ 5 ∷ [])) 3 ≡ false
right_spread = refl

wrong_spread : is_wrong_spread (coupled (cell.Node 1 ∷ []) (5 ∷ 5 ∷ [])) 3 ≡ true
wrong_spread = refl

empty_spread : is_wrong_spread (tree (flag (codes "regulator-coupled-max-spread") ∷ []) []) 3 ≡ false
empty_spread = refl

stated : stated_spread (coupled (cell.Node 1 ∷ cell.Num 7 ∷ []) (5 ∷ 6 ∷ [])) 3 ≡ Some 5
stated = refl

not_stated : stated_spread (tree (flag (codes "regulator-coupled-max-spread") ∷ []) []) 3 ≡ None
not_stated = refl

stated_in_text : stated_spread (tree (text (codes "regulator-coupled-max-spread") [] ∷ []) []) 3 ≡ None
stated_in_text = refl

stated_alone : stated_spread (tree (number (codes "regulator-coupled-max-spread") 5 ∷ []) []) 3 ≡ Some 5
stated_alone = refl
