-- Entries, and their names beside them.
use Rattle.std.specs.Prelude.{ℕ, ◌+◌, List, [], ◌∷◌, length}

-- the entries with their names
abbrev pub named : {V : Type 0} → List (ℕ × V) → List (List ℕ) → List ((ℕ × List ℕ) × V)
named [] names = []
named (e ∷ es) [] = []
named (e ∷ es) (name ∷ names) = ((e.0, name), e.1) ∷ named es names

-- how many bytes some names have
abbrev pub bytes_in : List (List ℕ) → ℕ
bytes_in [] = 0
bytes_in (name ∷ names) = length name + bytes_in names
