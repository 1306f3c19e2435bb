-- What is owned, owner by owner.
use Rattle.std.specs.Prelude.{◌≡◌, ℕ, ◌+◌, ◌≤◌, List, length, take, slice_index}
use Rattle.std.specs.List.{flat_map}
use Rattle.dts_tree.specs.Order.{children_from}

-- the places of all that these own, one owner after another
abbrev pub listed_of : List ℕ → List ℕ → List ℕ
listed_of owners order = flat_map (λ k. children_from owners k 0) order

-- those places, and where those of each owner begin, the end of all last
pub record IsListing (owners order places starts : List ℕ) : Type 0 where
  pub whole : places ≡ listed_of owners order
  pub long : length starts ≡ length order + 1
  pub begins : (i : ℕ) → i ≤ length order → slice_index starts i ≡ length (listed_of owners (take i order))
