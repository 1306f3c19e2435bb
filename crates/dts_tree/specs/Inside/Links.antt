-- The links from owners to the items that they own.
use Rattle.std.specs.Prelude.{◌≡◌, ℕ, ◌+◌, ◌<◌, ◌≤◌, List, [], ◌∷◌, Option, Some, None, length, slice_index, slice_index_or}
use Rattle.dts_tree.specs.Order.{children_from}

abbrev pub first_of : List ℕ → Option ℕ
first_of [] = None
first_of (x ∷ xs) = Some x

abbrev pub listed : Option ℕ → List ℕ
listed None = []
listed (Some x) = x ∷ []

-- of each owner its first item from number k on, and of each such item the next of the same owner
pub record Linked (owners : List ℕ) (count : ℕ) (first next : List (Option ℕ)) (k : ℕ) : Type 0 where
  pub firsts : length first ≡ count
  pub nexts : length next ≡ length owners
  pub child : (x : ℕ) → x < count → slice_index_or first x None ≡ first_of (children_from owners x k)
  pub sibling : (j : ℕ) → k ≤ j → j < length owners → slice_index_or next j None ≡ first_of (children_from owners (slice_index owners j) (j + 1))
  pub alone : (j : ℕ) → j < k → slice_index_or next j None ≡ None
