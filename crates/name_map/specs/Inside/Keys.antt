-- Short keys of owners and names.
use Rattle.std.specs.Prelude.{◌≡◌, ℕ, ◌+◌, ◌≤◌, ◌/◌, ◌%◌, List, [], ◌∷◌, Bool, false, nat_lt, Option, Some, None, length, if◌then◌else◌}
use Rattle.std.specs.Cmp.Lexicographic.{slice_cmp}
use Rattle.std.specs.declared.cmp.Ordering.{Ordering}
use Rattle.std.specs.Option.{option_map}
use Rattle.std.specs.Ordering.{nat_cmp, ordering_then}
use Rattle.name_map.specs.NameEntries.{same_name}
use Rattle.name_map.specs.Inside.States.{Edges, piece_of, state_of}

-- an owner and a code for the name
abbrev pub Key : Type 0
Key = ℕ × List ℕ

-- the code of a state, whose last byte is no count of a piece
unfoldable pub numbered : ℕ → List ℕ
numbered state = state % 256 ∷ state / 256 % 256 ∷ state / 65536 % 256 ∷ state / 16777216 ∷ 0 ∷ 0 ∷ 0 ∷ 8 ∷ []

-- a short name is its own code, and a longer one has that of the state that it leads to
abbrev pub code_of : Edges → List ℕ → Option (List ℕ)
code_of edges name = if nat_lt (length name) 8 then Some (piece_of name) else option_map numbered (state_of edges name)

-- the short key of an owner and a name
abbrev pub key_of : Edges → ℕ × List ℕ → Option Key
key_of edges a = option_map (λ code. (a.0, code)) (code_of edges a.1)

-- this is the short key
abbrev pub is_key : Key → Option Key → Bool
is_key key None = false
is_key key (Some other) = same_name key other

-- in which order a map has short keys
abbrev pub key_cmp : Key → Key → Ordering
key_cmp a b = ordering_then (nat_cmp a.0 b.0) (slice_cmp nat_cmp a.1 b.1)

-- more edges: no more than the name has bytes, none where it led to a state before, and each other name
-- that had a code has it still
pub record IsGrown (old new : Edges) (name : List ℕ) : Type 0 where
  pub few : length new ≤ length old + length name
  pub stays : (code : List ℕ) → code_of old name ≡ Some code → new ≡ old
  pub kept : (other code : List ℕ) → code_of old other ≡ Some code → code_of new other ≡ Some code
