-- The flags of the first so many nodes.
use Rattle.std.proofs.Common.{◌≡◌, ℕ, zero, suc, ◌+◌, ◌<◌, ◌++◌, [], ◌∷◌, List, Bool, ◌&&◌, Option, Some, None, length, refl, ap, ◌∙◌, arith, IfSome}
use Rattle.std.proofs.lemmas.List.{length_push}
use Rattle.dts_tree.specs.Tree.{Node}
use Rattle.dts_nodes.specs.Use.{in_use_first, is_below_used, is_good, parent_of}

pub length-in_use_first : (nodes : List Node) (k : ℕ) → length (in_use_first nodes k) ≡ k
length-in_use_first nodes zero = refl
length-in_use_first nodes (suc k) = let before = length-in_use_first nodes k in length_push _ _ ∙ omega (arith, before)

-- the flag of one node more
pub in_use_first-more : (nodes : List Node) (k : ℕ) (flags : List Bool) (parent : Option ℕ) → flags ≡ in_use_first nodes k → parent ≡ parent_of nodes k
    → flags ++ (is_below_used flags parent && is_good nodes k) ∷ [] ≡ in_use_first nodes (k + 1)
in_use_first-more nodes k flags parent is same =
    let next : suc k ≡ k + 1 = omega arith in
    let first : flags ++ (is_below_used flags parent && is_good nodes k) ∷ [] ≡ in_use_first nodes (suc k) = rw (is, same) refl in
    first ∙ ap (in_use_first nodes) next

-- a parent that stands before a node has a flag
pub has_flag : (nodes : List Node) (k : ℕ) (flags : List Bool) (parent : Option ℕ) → flags ≡ in_use_first nodes k → IfSome parent (λ p. p < k) → IfSome parent (λ p. p < length flags)
has_flag nodes k flags None is lower = tt
has_flag nodes k flags (Some p) is lower = let count : length flags ≡ k = ap length is ∙ length-in_use_first nodes k in omega (arith, lower, count)
