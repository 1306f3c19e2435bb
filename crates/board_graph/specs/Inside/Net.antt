-- Vertices with the lists of those that each leads on to.
use Rattle.std.specs.Prelude.{ℕ, ◌<◌, List, [], length, Contains, slice_index_or}

-- the vertices that a vertex leads on to
abbrev pub next_of : List (List ℕ) → ℕ → List ℕ
next_of next a = slice_index_or next a []

-- a vertex leads on to another in one step
abbrev pub StepsTo : List (List ℕ) → ℕ → ℕ → Type 0
StepsTo next a b = Contains (next_of next a) b

-- each step leads to a vertex
abbrev pub IsNet : List (List ℕ) → Type 0
IsNet next = (a b : ℕ) → StepsTo next a b → b < length next
