-- The supplies above a rail, met one after another.
use Rattle.std.specs.Prelude.{ℕ, ◌≡◌, ◌⊎◌, cond, Bool, true, false, List, Option, Some, filter, length, slice_index_or, sum_by}
use Rattle.std.specs.List.{range_with_len}
use Rattle.board_graph.specs.declared.graph.Graph.{Graph}
use Rattle.board_graph.specs.Graph.{count_of, Supplies, IsAbove}

-- the number is marked
abbrev pub IsMarked : List Bool → ℕ → Type 0
IsMarked marks v = slice_index_or marks v false ≡ true

-- the numbers below a count that are marked, by rising numbers
abbrev pub marked : List Bool → ℕ → List ℕ
marked marks count = filter (λ v. slice_index_or marks v false) (range_with_len 0 count)

-- of each rail whether it is above the rail
pub record AreAbove (graph : Graph) (r : ℕ) (met : List Bool) : Type 0 where
  pub size : length met ≡ count_of graph
  pub on : (v : ℕ) → IsMarked met v → IsAbove graph v r
  pub all : (v : ℕ) → IsAbove graph v r → IsMarked met v

-- of each rail whether it was met on the way up from the rail, and which one comes next
pub record AreMet (graph : Graph) (r : ℕ) (met : List Bool) (next : Option ℕ) : Type 0 where
  pub size : length met ≡ count_of graph
  pub on : (v : ℕ) → IsMarked met v → IsAbove graph v r
  pub ahead : (supply : ℕ) → next ≡ Some supply → IsAbove graph supply r
  pub goes : (upper lower : ℕ) → Supplies graph upper lower → (lower ≡ r) ⊎ IsMarked met lower → IsMarked met upper ⊎ (next ≡ Some upper)

-- how many aren't marked
abbrev pub unmarked : List Bool → ℕ
unmarked marks = sum_by (λ mark. cond mark 0 1) marks
