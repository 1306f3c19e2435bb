-- Names one after another in one row of bytes.
use Rattle.std.specs.Prelude.{ℕ, zero, suc, ◌≤◌, List, [], ◌∷◌, slice_index, slice_range}

-- the names that end at these places, the first from this one on
abbrev pub names_from : ℕ → List ℕ → List ℕ → List (List ℕ)
names_from from [] bytes = []
names_from from (end ∷ ends) bytes = slice_range bytes from end ∷ names_from end ends bytes

-- where the last name ends
abbrev pub last_end : ℕ → List ℕ → ℕ
last_end from [] = from
last_end from (end ∷ ends) = last_end end ends

-- where the name at a place begins
abbrev pub begin_of : ℕ → List ℕ → ℕ → ℕ
begin_of from ends zero = from
begin_of from ends (suc k) = slice_index ends k

-- no name ends before it begins
abbrev pub Rises : ℕ → List ℕ → Type 0
Rises from [] = Unit {0}
Rises from (end ∷ ends) = (from ≤ end) × Rises end ends
