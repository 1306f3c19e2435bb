-- Names in pieces of seven bytes, and the states that the pieces lead to.
use Rattle.std.specs.Prelude.{ℕ, zero, suc, ◌+◌, ◌-◌, ◌*◌, ◌/◌, List, [], ◌∷◌, Option, Some, None, length, take, drop, slice_index}
use Rattle.std.specs.Option.{option_map}
use Rattle.name_map.specs.NameEntries.{same_name, place_of}

-- edges in the order in which they came: the one at a place leads from its state, by its piece, to the
-- state numbered by the place and one more
abbrev pub Edges : Type 0
Edges = List ((ℕ × List ℕ) × Unit {0})

-- up to seven bytes, filled up with zeros, and how many they are
unfoldable pub piece_of : List ℕ → List ℕ
piece_of bs = slice_index bs 0 ∷ slice_index bs 1 ∷ slice_index bs 2 ∷ slice_index bs 3 ∷ slice_index bs 4 ∷ slice_index bs 5 ∷ slice_index bs 6 ∷ length bs ∷ []

-- a piece of a name, from 0
abbrev pub piece_at : List ℕ → ℕ → List ℕ
piece_at name k = piece_of (take 7 (drop (7 * k) name))

-- how many pieces a name has
abbrev pub pieces : List ℕ → ℕ
pieces name = (length name - 1) / 7 + 1

-- one piece further
abbrev pub step : Edges → List ℕ → Option ℕ → Option ℕ
step edges piece None = None
step edges piece (Some state) = option_map (λ place. place + 1) (place_of (same_name (state, piece)) edges)

-- the state that so many pieces lead to, from the state 0
unfoldable pub walk : Edges → List ℕ → ℕ → Option ℕ
walk edges name zero = Some 0
walk edges name (suc k) = step edges (piece_at name k) (walk edges name k)

-- the state that a name leads to
abbrev pub state_of : Edges → List ℕ → Option ℕ
state_of edges name = walk edges name (pieces name)
