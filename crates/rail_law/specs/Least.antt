-- The least values that keep all ties, among the values that each rail may take.
use Rattle.std.specs.Prelude.{ℕ, ◌≤◌, Bool, min, max, List, [], ◌∷◌, map, filter, flat_map, fold, slice_index, All, Contains, Option, Some, None, if◌then◌else◌}
use Rattle.std.specs.List.{list_any, AllZip}
use Rattle.board_graph.specs.Order.{is_taken}
use Rattle.board_graph.specs.Sets.{rails_of, movers}
use Rattle.board.specs.declared.board.Board.{Board}
use Rattle.board.specs.Fields.{allowed_at}
use Rattle.rail_law.specs.Ties.{Tie, keep_all, KeepsAll}
use Rattle.rail_law.specs.BoardTies.{is_named, ties_at}

-- all lists that take one value from each of these lists
abbrev pub assignments : List (List ℕ) → List (List ℕ)
assignments [] = [] ∷ []
assignments (values ∷ choices) = let rest = assignments choices in flat_map (λ value. map (λ vector. value ∷ vector) rest) values

-- those of them that keep all ties
abbrev pub admissible : List (List ℕ) → List Tie → List (List ℕ)
admissible choices ties = filter (λ vector. keep_all vector ties) (assignments choices)

-- of each rail the lower of two values
abbrev pub lower : List ℕ → List ℕ → List ℕ
lower [] vs = []
lower (u ∷ us) [] = []
lower (u ∷ us) (v ∷ vs) = min u v ∷ lower us vs

-- of each rail the higher of two values
abbrev pub higher : List ℕ → List ℕ → List ℕ
higher [] vs = []
higher (u ∷ us) [] = []
higher (u ∷ us) (v ∷ vs) = max u v ∷ higher us vs

-- of each rail the lowest value in any of these, where there are any
abbrev pub lowest : List (List ℕ) → Option (List ℕ)
lowest [] = None
lowest (vector ∷ vectors) = Some (fold lower vector vectors)

-- the least values that keep all ties, where any do: of each rail the lowest at which all can be kept
abbrev pub least_vector : List (List ℕ) → List Tie → Option (List ℕ)
least_vector choices ties = lowest (admissible choices ties)

-- the values take one from each list, and keep all ties
pub record IsAdmissible (choices : List (List ℕ)) (ties : List Tie) (vector : List ℕ) : Type 0 where
  pub chosen : AllZip Contains choices vector
  pub kept : KeepsAll vector ties

-- each rail has no more in the first than in the second
abbrev pub IsAtMost : List ℕ → List ℕ → Type 0
IsAtMost us vs = (i : ℕ) → slice_index us i ≤ slice_index vs i

-- the values keep all ties, and none that do has less for any rail
pub record IsLeast (choices : List (List ℕ)) (ties : List Tie) (vector : List ℕ) : Type 0 where
  pub itself : IsAdmissible choices ties vector
  pub least : (other : List ℕ) → IsAdmissible choices ties other → IsAtMost vector other

-- for each rail no value but some of the other's
abbrev pub AreFewer : List (List ℕ) → List (List ℕ) → Type 0
AreFewer fewer choices = AllZip (λ few many. All (Contains many) few) fewer choices

-- the values among which rail i may be chosen: if it moves, those that it may stand at and that are
-- asked of it; else where it stands, if it is tied to what moves; else 0, at which nobody looks
abbrev pub choices_among : List ℕ → List Tie → List ℕ → (ℕ → ℕ → Bool) → Board → ℕ → List ℕ
choices_among moving ties now ok board i =
    if is_taken moving i then filter (ok i) (allowed_at board i)
    else (if list_any (λ tie. is_named tie i) ties then slice_index now i ∷ [] else 0 ∷ [])

-- the values of all rails when rail r is to move: `now` is where they stand, and `ok i uv` whether
-- what is asked of rail i lets it take the value
abbrev pub choices_of : Board → List ℕ → (ℕ → ℕ → Bool) → ℕ → List (List ℕ)
choices_of board now ok r =
    let moving = movers board.graph r in
    let ties = ties_at board r in
    map (choices_among moving ties now ok board) (rails_of board.graph)

-- the least lawful values when rail r is to move, where there are any
abbrev pub least_of : Board → List ℕ → (ℕ → ℕ → Bool) → ℕ → Option (List ℕ)
least_of board now ok r = least_vector (choices_of board now ok r) (ties_at board r)
