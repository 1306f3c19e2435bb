-- Trees by the parents of their nodes, worked out by hand. With the parents 0, 0, 1, 0 and 2 the root has
-- the children 1 and 3, 1 has the child 2, and that the child 4.
use Rattle.std.specs.Prelude.{◌≡◌, ℕ, List, [], ◌∷◌}
use Rattle.std.proofs.Common.{refl}
use Rattle.dts_tree.specs.Order.{children_from, below, in_tree_order}

abbrev parents : List ℕ
parents = 0 ∷ 0 ∷ 1 ∷ 0 ∷ 2 ∷ []

children_of_root : children_from parents 0 1 ≡ 1 ∷ 3 ∷ []
unfolding children_from
children_of_root = refl

children_further_on : children_from parents 0 2 ≡ 3 ∷ []
unfolding children_from
children_further_on = refl

children_from_the_last : children_from parents 2 4 ≡ 4 ∷ []
unfolding children_from
children_from_the_last = refl

only_child : children_from parents 1 1 ≡ 2 ∷ []
unfolding children_from
only_child = refl

root_among_all : children_from parents 0 0 ≡ 0 ∷ 1 ∷ 3 ∷ []
unfolding children_from
root_among_all = refl

no_children : children_from parents 3 1 ≡ []
unfolding children_from
no_children = refl

children_past_all : children_from parents 0 5 ≡ []
unfolding children_from
children_past_all = refl

-- so many levels, and not one more
no_level : below 0 parents 0 ≡ 0 ∷ []
unfolding below children_from
no_level = refl

one_level : below 1 parents 0 ≡ 0 ∷ 1 ∷ 3 ∷ []
unfolding below children_from
one_level = refl

two_levels : below 2 parents 0 ≡ 0 ∷ 1 ∷ 2 ∷ 3 ∷ []
unfolding below children_from
two_levels = refl

three_levels : below 3 parents 0 ≡ 0 ∷ 1 ∷ 2 ∷ 4 ∷ 3 ∷ []
unfolding below children_from
three_levels = refl

below_a_child : below 3 parents 1 ≡ 1 ∷ 2 ∷ 4 ∷ []
unfolding below children_from
below_a_child = refl

-- whole trees: this one, the root alone, one that is as deep as can be, and one of two broad levels
whole : in_tree_order parents ≡ 0 ∷ 1 ∷ 2 ∷ 4 ∷ 3 ∷ []
unfolding below children_from
whole = refl

alone : in_tree_order (0 ∷ []) ≡ 0 ∷ []
unfolding below children_from
alone = refl

one_below_another : in_tree_order (0 ∷ 0 ∷ 1 ∷ 2 ∷ 3 ∷ []) ≡ 0 ∷ 1 ∷ 2 ∷ 3 ∷ 4 ∷ []
unfolding below children_from
one_below_another = refl

broad : in_tree_order (0 ∷ 0 ∷ 0 ∷ 2 ∷ 1 ∷ 2 ∷ 1 ∷ []) ≡ 0 ∷ 1 ∷ 4 ∷ 6 ∷ 2 ∷ 3 ∷ 5 ∷ []
unfolding below children_from
broad = refl

-- a parent that is numbered behind its child
parent_behind : in_tree_order (0 ∷ 2 ∷ 0 ∷ []) ≡ 0 ∷ 2 ∷ 1 ∷ []
unfolding below children_from
parent_behind = refl
