-- What the handles ask of a rail's value.
use Rattle.std.specs.Prelude.{ℕ, ◌==◌, ◌&&◌, Bool, nat_le, List, ◌∷◌, filter_map, map, slice_index, Option, option_map, if◌then◌else◌}
use Rattle.std.specs.List.{list_all}
use Rattle.board_graph.specs.Order.{is_taken}
use Rattle.board_graph.specs.Sets.{rails_of, movers}
use Rattle.board.specs.declared.board.Board.{Board}
use Rattle.rail_law.specs.BoardTies.{standing_values}
use Rattle.rail_law.specs.Least.{least_of}
use Rattle.plain_board.specs.declared.plain.Plain.{Plain}
use Rattle.plain_board.specs.Handles.{Entry, rows_on, without_open}

-- the value meets the request
abbrev pub meets : ℕ → ℕ × ℕ → Bool
meets uv request = nat_le request.0 uv && nat_le uv request.1

-- the requests that stand on rail i
abbrev pub requests_on : List Entry → ℕ → List (ℕ × ℕ)
requests_on handles i = filter_map (λ row. row.request) (rows_on handles i)

-- what is asked of rail i once the worker's handle of this name on rail r asks anew: its new request in
-- place of its old one, and the requests of all other handles
abbrev pub asked : List Entry → ℕ → List ℕ → ℕ → ℕ × ℕ → ℕ → List (ℕ × ℕ)
asked handles worker name r request i =
    let others = requests_on (without_open handles worker name) i in if i == r then request ∷ others else others

-- the least lawful values that meet all requests, where there are any: those of the rails that move with rail r
abbrev pub least_for : Board → Plain → ℕ → List ℕ → ℕ → ℕ × ℕ → Option (List ℕ)
least_for board plain worker name r request =
    least_of board (standing_values board plain.regs) (λ i uv. list_all (meets uv) (asked plain.handles worker name r request i)) r

-- the rails that move with rail r at these values, and all others where they stand
abbrev pub with_moved : Board → List ℕ → ℕ → List ℕ → List ℕ
with_moved board now r least =
    let moving = movers board.graph r in
    map (λ i. if is_taken moving i then slice_index least i else slice_index now i) (rails_of board.graph)

-- the values to which such a request takes the board's rails, where it can be met
abbrev pub goal_of : Board → Plain → ℕ → List ℕ → ℕ → ℕ × ℕ → Option (List ℕ)
goal_of board plain worker name r request =
    option_map (with_moved board (standing_values board plain.regs) r) (least_for board plain worker name r request)
