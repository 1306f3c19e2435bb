-- Entries by owners and names, in the order in which their keys came.
pub use Rattle.ordered_map.specs.Entries.{insert_entry, keep_entry, place_of}
use Rattle.std.specs.Prelude.{ℕ, ◌+◌, List, [], ◌∷◌, Bool, ◌&&◌, nat_eq, length}
use Rattle.std.specs.Str.{bytes_eq}

-- two keys are the same where their owners are and their names have the same bytes
abbrev pub same_name : ℕ × List ℕ → ℕ × List ℕ → Bool
same_name a b = nat_eq a.0 b.0 && bytes_eq a.1 b.1

-- how many bytes the names have, with one more for each name
abbrev pub size_of : {V : Type 0} → List ((ℕ × List ℕ) × V) → ℕ
size_of [] = 0
size_of (e ∷ es) = length e.0.1 + 1 + size_of es
