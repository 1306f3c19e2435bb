-- The way of one rail by itself.
use Rattle.std.specs.Prelude.{ℕ, ◌==◌, ◌&&◌, Bool, not, nat_le, nat_lt, List, [], ◌∷◌, map, filter, if◌then◌else◌}
use Rattle.board.specs.declared.part.Part.TheVariants.{Selector}
use Rattle.board.specs.declared.rail.Rail.{Rail}
use Rattle.board.specs.declared.rail_id.RailId.{RailId}
use Rattle.board.specs.Rail.{allowed}
use Rattle.rail_law.specs.Moves.{Move, selector_for}

-- puts a number into a list in which each number stands once, in the order of `before`
abbrev pub put_once : (ℕ → ℕ → Bool) → ℕ → List ℕ → List ℕ
put_once before n [] = n ∷ []
put_once before n (m ∷ ms) =
    if before n m then n ∷ m ∷ ms
    else (if n == m then m ∷ ms else m ∷ put_once before n ms)

-- the numbers of a list, each once, in the order of `before`
abbrev pub in_order : (ℕ → ℕ → Bool) → List ℕ → List ℕ
in_order before [] = []
in_order before (n ∷ ns) = put_once before n (in_order before ns)

-- the values behind `from` and not behind `to`, each once, in the order of `before`
abbrev pub stretch : (ℕ → ℕ → Bool) → List ℕ → ℕ → ℕ → List ℕ
stretch before values from to = in_order before (filter (λ v. before from v && not (before to v)) values)

-- the values that a rail comes by on its way, rising or falling, each next one the neighbour of the
-- one before, and the last of them its target
abbrev pub way : List ℕ → ℕ → ℕ → List ℕ
way values from to = if nat_le from to then stretch nat_lt values from to else stretch (λ a b. nat_lt b a) values from to

-- the moves that take a rail from one value to another: one of its selector for each value on the way
abbrev pub moves_to : RailId → Rail → ℕ → ℕ → List Move
moves_to r rail from to =
    map (λ uv. record { rail = r; part = Selector; bits = selector_for rail uv }) (way (allowed rail) from to)
