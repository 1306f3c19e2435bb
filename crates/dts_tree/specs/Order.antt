-- The order of a tree whose nodes are told by the numbers of their parents: each node before what is
-- below it, children as they are numbered.
use Rattle.std.specs.Prelude.{ℕ, zero, suc, ◌-◌, List, [], ◌∷◌, filter, length, nat_eq, slice_index}
use Rattle.std.specs.List.{range_with_len, flat_map}

-- the nodes from k on whose parent is x
unfoldable pub children_from : List ℕ → ℕ → ℕ → List ℕ
children_from parents x k = filter (λ j. nat_eq (slice_index parents j) x) (range_with_len k (length parents - k))

-- the node x and what is below it, so many levels deep; node 0 is no child
unfoldable pub below : ℕ → List ℕ → ℕ → List ℕ
below zero parents x = x ∷ []
below (suc levels) parents x = x ∷ flat_map (below levels parents) (children_from parents x 1)

-- the whole tree: there are no more levels than nodes
abbrev pub in_tree_order : List ℕ → List ℕ
in_tree_order parents = below (length parents) parents 0
