-- What single settings come to, worked out by hand: a root with the nodes a (1), a/b (2) and b (3).
use Rattle.std.specs.Prelude.{◌≡◌, ℕ, ◌+◌, List, [], ◌∷◌, ◌++◌, true, false, Some, None, Ok, Err, codes}
use Rattle.std.proofs.Common.{refl}
use Rattle.dts_tree.specs.declared.fault.TreeFault.TheVariants.{NoLabel, TwoLabels, TooDeep, Syntax}
use Rattle.dts_tree.specs.declared.store.Opened.{Opened}
use Rattle.dts_tree.specs.declared.value.Cell.TheVariants as cell
use Rattle.dts_tree.specs.Value.{Part, Cells, Text, Bytes, Whole}
use Rattle.dts_tree.specs.Setting.{Label, Root, Labelled, Child, OpensRoot, Opens, Adds, Sets}
use Rattle.dts_tree.specs.Content.{Content, nothing, child_of, node_of, or_root, number_at, depth_of, stands_off, elsewhere, with_labels, with_child, opened, known, with_setting, unless_fault}

-- a label by its name and its place
abbrev pub label : List ℕ → ℕ → Label
label name at = record { name = name; at = at }

-- a node by the place of its name and its depth
abbrev pub node : ℕ → ℕ → Opened
node at depth = record { at = at; depth = depth }

abbrev pub some_children : List ((ℕ × List ℕ) × Opened)
some_children = ((0, codes "a"), node 20 1) ∷ ((1, codes "b"), node 30 2) ∷ ((0, codes "b"), node 40 1) ∷ []

abbrev pub some_labels : List ((ℕ × List ℕ) × ℕ)
some_labels = ((0, codes "x"), 1) ∷ ((0, codes "y"), 2) ∷ []

abbrev pub some_properties : List ((ℕ × List ℕ) × List (Part Label))
some_properties = ((2, codes "p"), Text (codes "t") ∷ []) ∷ ((1, codes "p"), []) ∷ []

abbrev pub some_content : Content
some_content = record { root_at = Some 9; children = some_children; labels = some_labels; properties = some_properties }

before_the_text : nothing ≡ record { root_at = None; children = []; labels = []; properties = [] }
unfolding nothing
before_the_text = refl

-- children by their parents and names
first_child : child_of some_children 0 (codes "a") ≡ Some 1
first_child = refl

child_of_child : child_of some_children 1 (codes "b") ≡ Some 2
child_of_child = refl

same_name_elsewhere : child_of some_children 0 (codes "b") ≡ Some 3
same_name_elsewhere = refl

no_child : child_of some_children 1 (codes "a") ≡ None
no_child = refl

child_of_none : child_of [] 0 (codes "a") ≡ None
child_of_none = refl

longer_name : child_of some_children 0 (codes "ab") ≡ None
longer_name = refl

-- labels have no owner
first_label : node_of some_labels (codes "x") ≡ Some 1
first_label = refl

second_label : node_of some_labels (codes "y") ≡ Some 2
second_label = refl

no_such_label : node_of some_labels (codes "z") ≡ None
no_such_label = refl

owned_label : node_of (((1, codes "x"), 5) ∷ []) (codes "x") ≡ None
owned_label = refl

a_node : or_root (Some 3) ≡ 3
a_node = refl

no_node : or_root None ≡ 0
no_node = refl

-- the numbers of paths
number_root : number_at some_content Root ≡ 0
number_root = refl

number_label : number_at some_content (Labelled (codes "y")) ≡ 2
number_label = refl

number_no_label : number_at some_content (Labelled (codes "z")) ≡ 0
number_no_label = refl

number_child : number_at some_content (Child Root (codes "b")) ≡ 3
number_child = refl

number_second_level : number_at some_content (Child (Child Root (codes "a")) (codes "b")) ≡ 2
number_second_level = refl

number_below_label : number_at some_content (Child (Labelled (codes "x")) (codes "b")) ≡ 2
number_below_label = refl

number_no_child : number_at some_content (Child (Labelled (codes "x")) (codes "a")) ≡ 0
number_no_child = refl

-- depths
depth_root : depth_of some_children 0 ≡ 0
depth_root = refl

depth_first : depth_of some_children 1 ≡ 1
depth_first = refl

depth_second : depth_of some_children 2 ≡ 2
depth_second = refl

depth_last : depth_of some_children 3 ≡ 1
depth_last = refl

depth_past_all : depth_of some_children 4 ≡ 0
depth_past_all = refl

-- a label stands off where it is at another node, or the node is new
off_not_there : stands_off (Some 1) None ≡ false
off_not_there = refl

off_same : stands_off (Some 1) (Some 1) ≡ false
off_same = refl

off_other : stands_off (Some 1) (Some 2) ≡ true
off_other = refl

off_new_node : stands_off None (Some 1) ≡ true
off_new_node = refl

off_neither : stands_off None None ≡ false
off_neither = refl

elsewhere_none : elsewhere some_labels (Some 1) [] ≡ None
elsewhere_none = refl

elsewhere_same_and_new : elsewhere some_labels (Some 1) (label (codes "x") 4 ∷ label (codes "z") 6 ∷ []) ≡ None
elsewhere_same_and_new = refl

elsewhere_second : elsewhere some_labels (Some 1) (label (codes "x") 4 ∷ label (codes "y") 6 ∷ []) ≡ Some 6
elsewhere_second = refl

elsewhere_first_of_two : elsewhere some_labels (Some 3) (label (codes "z") 2 ∷ label (codes "y") 4 ∷ label (codes "x") 6 ∷ []) ≡ Some 4
elsewhere_first_of_two = refl

elsewhere_new_node : elsewhere some_labels None (label (codes "z") 2 ∷ label (codes "x") 4 ∷ []) ≡ Some 4
elsewhere_new_node = refl

-- labels that come stand at the node, in their order; one that is there stays
labels_added : with_labels some_labels 3 (label (codes "z") 5 ∷ label (codes "x") 7 ∷ label (codes "w") 8 ∷ label (codes "z") 9 ∷ []) ≡ ((0, codes "x"), 1) ∷ ((0, codes "y"), 2) ∷ ((0, codes "z"), 3) ∷ ((0, codes "w"), 3) ∷ []
labels_added = refl

no_labels_added : with_labels some_labels 3 [] ≡ some_labels
no_labels_added = refl

-- a child that is new, one of the name of another's child, and one that is there
new_child : with_child some_content 2 (codes "c") 50 (label (codes "z") 47 ∷ []) ≡ record {
  root_at = Some 9;
  children = some_children ++ ((2, codes "c"), node 50 3) ∷ [];
  labels = some_labels ++ ((0, codes "z"), 4) ∷ [];
  properties = some_properties;
}
new_child = refl

child_of_another : with_child some_content 3 (codes "b") 50 [] ≡ record {
  root_at = Some 9;
  children = some_children ++ ((3, codes "b"), node 50 2) ∷ [];
  labels = some_labels;
  properties = some_properties;
}
child_of_another = refl

child_again : with_child some_content 1 (codes "b") 50 (label (codes "z") 47 ∷ label (codes "y") 49 ∷ []) ≡ record {
  root_at = Some 9;
  children = some_children;
  labels = some_labels ++ ((0, codes "z"), 2) ∷ [];
  properties = some_properties;
}
child_again = refl

-- a node 32 levels below the root, and one 31 below
abbrev deep : Content
deep = record { root_at = None; children = ((0, codes "d"), node 5 32) ∷ ((0, codes "e"), node 6 31) ∷ []; labels = ((0, codes "x"), 2) ∷ []; properties = [] }

deep_enough : opened deep 2 (codes "n") 9 [] None ≡ Ok (record { root_at = None; children = ((0, codes "d"), node 5 32) ∷ ((0, codes "e"), node 6 31) ∷ ((2, codes "n"), node 9 32) ∷ []; labels = ((0, codes "x"), 2) ∷ []; properties = [] })
deep_enough = refl

too_deep : opened deep 1 (codes "n") 9 (label (codes "z") 7 ∷ []) None ≡ Err (TooDeep 9)
too_deep = refl

two_labels : opened deep 0 (codes "n") 9 [] (Some 7) ≡ Err (TwoLabels 7)
two_labels = refl

-- a label that stands elsewhere comes before the depth
two_labels_too_deep : with_setting deep (Opens (Child Root (codes "d")) (codes "n") 9 (label (codes "x") 7 ∷ [])) ≡ Err (TwoLabels 7)
two_labels_too_deep = refl

too_deep_set : with_setting deep (Opens (Child Root (codes "d")) (codes "n") 9 (label (codes "y") 7 ∷ [])) ≡ Err (TooDeep 9)
too_deep_set = refl

label_known : known some_content 5 (Some 2) ≡ Ok some_content
label_known = refl

label_not_known : known some_content 5 None ≡ Err (NoLabel 5)
label_not_known = refl

-- the root's first body and a later one
root_opened : with_setting (record some_content { root_at = None }) (OpensRoot 9) ≡ Ok some_content
root_opened = refl

root_opened_again : with_setting some_content (OpensRoot 60) ≡ Ok some_content
root_opened_again = refl

-- a node is opened, with and without a label that stands at it, and with one that stands elsewhere
opened_again : with_setting some_content (Opens (Child Root (codes "a")) (codes "b") 50 (label (codes "y") 47 ∷ [])) ≡ Ok some_content
opened_again = refl

opened_new : with_setting some_content (Opens Root (codes "c") 50 (label (codes "z") 47 ∷ [])) ≡ Ok (record {
  root_at = Some 9;
  children = some_children ++ ((0, codes "c"), node 50 1) ∷ [];
  labels = some_labels ++ ((0, codes "z"), 4) ∷ [];
  properties = some_properties;
})
opened_new = refl

opened_elsewhere : with_setting some_content (Opens Root (codes "b") 50 (label (codes "z") 44 ∷ label (codes "y") 47 ∷ [])) ≡ Err (TwoLabels 47)
opened_elsewhere = refl

opened_new_elsewhere : with_setting some_content (Opens (Labelled (codes "y")) (codes "b") 50 (label (codes "y") 47 ∷ [])) ≡ Err (TwoLabels 47)
opened_new_elsewhere = refl

-- a body that adds changes nothing by itself
added : with_setting some_content (Adds (label (codes "y") 50)) ≡ Ok some_content
added = refl

added_to_none : with_setting some_content (Adds (label (codes "z") 50)) ≡ Err (NoLabel 50)
added_to_none = refl

-- a property that is new, one that is there, and one of the same name at another node
property_new : with_setting some_content (Sets Root (codes "p") (Bytes (1 ∷ []) ∷ [])) ≡ Ok (record some_content { properties = some_properties ++ ((0, codes "p"), Bytes (1 ∷ []) ∷ []) ∷ [] })
property_new = refl

property_again : with_setting some_content (Sets (Labelled (codes "y")) (codes "p") (Cells (cell.Num 1 ∷ []) ∷ Whole (label (codes "x") 55) ∷ [])) ≡ Ok (record some_content { properties = ((2, codes "p"), Cells (cell.Num 1 ∷ []) ∷ Whole (label (codes "x") 55) ∷ []) ∷ ((1, codes "p"), []) ∷ [] })
property_again = refl

property_other_name : with_setting some_content (Sets (Child Root (codes "a")) (codes "q") []) ≡ Ok (record some_content { properties = some_properties ++ ((1, codes "q"), []) ∷ [] })
property_other_name = refl

-- what comes behind a fault isn't looked at
goes_on : unless_fault (λ (n : ℕ). Ok (n + 1)) (Ok 3) ≡ Ok 4
goes_on = refl

stops : unless_fault (λ (n : ℕ). Ok n) (Err (Syntax 4)) ≡ Err (Syntax 4)
stops = refl
