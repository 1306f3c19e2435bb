-- What a rail's node asks of a suspended board, worked out by hand.
use Rattle.std.specs.Prelude.{◌≡◌, ℕ, true, false, List, [], ◌∷◌, None, Some, codes}
use Rattle.std.proofs.Common.{refl}
use Rattle.board.specs.declared.sleep.Sleep.{Sleep}
use Rattle.board.specs.declared.table.Table.TheVariants.{List as Listed}
use Rattle.board.proofs.Boards.{usb_table, fixed}
use Rattle.dts_tree.specs.Value.{Property}
use Rattle.dts_tree.specs.Tree.{Node}
use Rattle.dts_tree.proofs.WorkedTrees.{tree_node}
use Rattle.dts_nodes.specs.declared.form.Form.TheVariants.{Absent, Wrong, Is}
use Rattle.constraints.specs.Sleeps.{state_nodes, has, on_asked, suspend_value, sleep_of, sleeps_at, is_wrong_value, has_wrong_suspend, is_out_of, is_bad_sleep, has_bad_sleep, has_bad_suspend}
use Rattle.constraints.specs.StateNodes.{is_good_child}
use Rattle.constraints.proofs.Trees.{numbers, number, text, flag, tree, state, with_modes}

-- a value, in µV
abbrev value : ℕ → Property ℕ
value uv = number (codes "regulator-suspend-microvolt") uv

-- the nodes 4, 5 and 6 for disk, standby and mem
abbrev asleep : List (Property ℕ) → List (Property ℕ) → List (Property ℕ) → List Node
asleep standby mem disk =
    tree [] (state (codes "regulator-state-disk") disk ∷ state (codes "regulator-state-standby") standby ∷ state (codes "regulator-state-mem") mem ∷ [])

all_three : state_nodes (asleep [] [] []) 3 ≡ Some 5 ∷ Some 6 ∷ Some 4 ∷ []
all_three = refl

none_below : state_nodes (tree [] []) 3 ≡ None ∷ None ∷ None ∷ []
none_below = refl

of_the_other_rail : state_nodes (asleep [] [] []) 1 ≡ None ∷ Some 2 ∷ None ∷ []
of_the_other_rail = refl

disabled : state_nodes (asleep (text (codes "status") (codes "disabled") ∷ []) [] (text (codes "status") (codes "okay") ∷ [])) 3 ≡ None ∷ Some 6 ∷ Some 4 ∷ []
disabled = refl

another_name : state_nodes (tree [] (state (codes "regulator-state-me") [] ∷ state (codes "regulator-state-disk@0") [] ∷ [])) 3 ≡ None ∷ None ∷ None ∷ []
another_name = refl

further_below : state_nodes (tree [] (state (codes "a") [] ∷ tree_node (codes "regulator-state-mem") (Some 4) 50 [] ∷ [])) 3 ≡ None ∷ None ∷ None ∷ []
further_below = refl

the_first_good : state_nodes (tree [] (state (codes "regulator-state-mem") (text (codes "status") (codes "fail") ∷ []) ∷ state (codes "regulator-state-mem") [] ∷ state (codes "regulator-state-mem") [] ∷ [])) 3
    ≡ None ∷ Some 5 ∷ None ∷ []
the_first_good = refl

-- a node by itself
child : is_good_child (asleep [] [] []) 3 (codes "regulator-state-mem") 6 ≡ true
child = refl

child_of_another : is_good_child (asleep [] [] []) 3 (codes "regulator-state-mem") 2 ≡ false
child_of_another = refl

child_of_another_name : is_good_child (asleep [] [] []) 3 (codes "regulator-state-mem") 5 ≡ false
child_of_another_name = refl

child_disabled : is_good_child (asleep [] (text (codes "status") (codes "disabled") ∷ []) []) 3 (codes "regulator-state-mem") 6 ≡ false
child_disabled = refl

no_child : is_good_child (tree_node (codes "regulator-state-mem") None 0 [] ∷ []) 0 (codes "regulator-state-mem") 0 ≡ false
no_child = refl

-- a property that is there
has_flag : has (tree (flag (codes "regulator-always-on") ∷ []) []) 3 (codes "regulator-always-on") ≡ true
has_flag = refl

has_number : has (tree (number (codes "regulator-always-on") 0 ∷ []) []) 3 (codes "regulator-always-on") ≡ true
has_number = refl

has_not : has (tree [] []) 3 (codes "regulator-always-on") ≡ false
has_not = refl

-- on and off
on_alone : on_asked true false ≡ Some true
on_alone = refl

off_alone : on_asked false true ≡ Some false
off_alone = refl

on_wins : on_asked true true ≡ Some true
on_wins = refl

neither : on_asked false false ≡ None
neither = refl

-- what a node asks
abbrev on : Property ℕ
on = flag (codes "regulator-on-in-suspend")

abbrev off : Property ℕ
off = flag (codes "regulator-off-in-suspend")

abbrev asks : List (Property ℕ) → Sleep
asks properties = sleep_of (tree [] (state (codes "regulator-state-mem") properties ∷ [])) 4

asks_nothing : asks [] ≡ record { on = None; uv = None }
asks_nothing = refl

asks_value : asks (value 0 ∷ off ∷ []) ≡ record { on = Some false; uv = Some 0 }
asks_value = refl

asks_both : asks (off ∷ on ∷ []) ≡ record { on = Some true; uv = None }
asks_both = refl

asks_wrongly : asks (flag (codes "regulator-suspend-microvolt") ∷ on ∷ []) ≡ record { on = Some true; uv = None }
asks_wrongly = refl

in_order : sleeps_at (asleep (on ∷ []) (value 1500000 ∷ []) (off ∷ [])) 3
    ≡ Some (record { on = Some true; uv = None }) ∷ Some (record { on = None; uv = Some 1500000 }) ∷ Some (record { on = Some false; uv = None }) ∷ []
in_order = refl

none_asked : sleeps_at (tree (on ∷ []) []) 3 ≡ None ∷ None ∷ None ∷ []
none_asked = refl

-- the form of a value
value_absent : suspend_value (asleep [] [] []) 6 ≡ Absent
value_absent = refl

value_there : suspend_value (asleep [] (value 5 ∷ []) []) 6 ≡ Is 5
value_there = refl

value_wrong : suspend_value (asleep [] (text (codes "regulator-suspend-microvolt") [] ∷ []) []) 6 ≡ Wrong
value_wrong = refl

no_node : is_wrong_value (asleep [] [] []) None ≡ false
no_node = refl

wrong_node : is_wrong_value (asleep [] (numbers (codes "regulator-suspend-microvolt") [] ∷ []) []) (Some 6) ≡ true
wrong_node = refl

all_right : has_wrong_suspend (asleep [] (value 5 ∷ []) []) 3 ≡ false
all_right = refl

one_wrong : has_wrong_suspend (asleep [] [] (numbers (codes "regulator-suspend-microvolt") (5 ∷ 6 ∷ []) ∷ [])) 3 ≡ true
one_wrong = refl

wrong_elsewhere : has_wrong_suspend (asleep [] [] (numbers (codes "regulator-suspend-microvolt") (5 ∷ 6 ∷ []) ∷ [])) 1 ≡ false
wrong_elsewhere = refl

-- values of the table, and within bounds
in_both : is_out_of usb_table (Some (1200000, 1500000)) 1500000 ≡ false
in_both = refl

out_of_bounds : is_out_of usb_table (Some (1200000, 1499999)) 1500000 ≡ true
out_of_bounds = refl

out_of_table : is_out_of usb_table (Some (1200000, 1500000)) 1499999 ≡ true
out_of_table = refl

without_bounds : is_out_of usb_table None 1500000 ≡ false
without_bounds = refl

out_of_table_without_bounds : is_out_of usb_table None 0 ≡ true
out_of_table_without_bounds = refl

zero_of_a_table : is_out_of (Listed (0 ∷ 100 ∷ [])) None 0 ≡ false
zero_of_a_table = refl

-- what is asked of a suspended board
abbrev standing : ℕ → Sleep
standing uv = record { on = None; uv = Some uv }

bad_sleep : is_bad_sleep usb_table None (Some (standing 5)) ≡ true
bad_sleep = refl

good_sleep : is_bad_sleep usb_table None (Some (standing 1500000)) ≡ false
good_sleep = refl

no_sleep : is_bad_sleep usb_table None None ≡ false
no_sleep = refl

no_value : is_bad_sleep usb_table None (Some (record { on = Some true; uv = None })) ≡ false
no_value = refl

second_bad : has_bad_sleep with_modes None (Some (standing 1500000) ∷ Some (standing 0) ∷ None ∷ []) ≡ true
second_bad = refl

all_good : has_bad_sleep with_modes None (Some (standing 1500000) ∷ None ∷ None ∷ []) ≡ false
all_good = refl

no_selector : has_bad_sleep (fixed 3300000) None (Some (standing 0) ∷ None ∷ None ∷ []) ≡ false
no_selector = refl

-- of a node: the bounds are its own
abbrev bounded : ℕ → List Node
bounded uv =
    tree (number (codes "regulator-min-microvolt") 1200000 ∷ number (codes "regulator-max-microvolt") 1800000 ∷ []) (state (codes "regulator-state-mem") (value uv ∷ []) ∷ [])

within : has_bad_suspend (bounded 1500000) 3 with_modes ≡ false
within = refl

not_within : has_bad_suspend (bounded 2500000) 3 with_modes ≡ true
not_within = refl

between : has_bad_suspend (bounded 1500001) 3 with_modes ≡ true
between = refl
