-- The ties that a board's spreads and dropouts put on the values of its rails.
use Rattle.std.specs.Prelude.{ℕ, ◌==◌, Bool, not, ◌||◌, List, [], ◌++◌, map, filter, flat_map, slice_get, slice_index, option_to_list, if◌then◌else◌}
use Rattle.std.specs.Option.{option_map_or}
use Rattle.board_graph.specs.Graph.{supply_at, members}
use Rattle.board_graph.specs.Order.{is_taken}
use Rattle.board_graph.specs.Sets.{rails_of, is_linked_at, movers}
use Rattle.board.specs.declared.board.Board.{Board}
use Rattle.board.specs.Rail.{uv}
use Rattle.rail_law.specs.Ties.{Tie}

-- where each rail stands by these registers, in the order of the rails
abbrev pub standing_values : Board → List (List ℕ) → List ℕ
standing_values board regs = map (λ rail. uv rail regs) board.rails

-- how far above its supply's value the rail may not come
abbrev pub dropout_at : Board → ℕ → ℕ
dropout_at board i = option_map_or (λ rail. rail.desc.dropout) (slice_get board.rails i) 0

-- the ties of a rail of a group to the others of it: it is no further above them than their spread
abbrev pub spread_ties_in : Board → ℕ → ℕ → List Tie
spread_ties_in board i group =
    map (λ j. record { low = i; rise = 0; high = j; fall = slice_index board.spread group }) (filter (λ j. not (j == i)) (members board.graph group))

-- the ties of a rail to those that it is coupled with
abbrev pub spread_ties : Board → ℕ → List Tie
spread_ties board i = option_map_or (spread_ties_in board i) (slice_get board.graph.group i) []

-- the tie of a rail to its supply, where it is linked to it: it and its dropout are no higher
abbrev pub dropout_ties : Board → ℕ → List Tie
dropout_ties board i =
    if is_linked_at board.graph i
    then map (λ s. record { low = i; rise = dropout_at board i; high = s; fall = 0 }) (option_to_list (supply_at board.graph i))
    else []

-- all ties of a board
abbrev pub ties_of : Board → List Tie
ties_of board = flat_map (λ i. spread_ties board i ++ dropout_ties board i) (rails_of board.graph)

-- the tie is one of the rail's
abbrev pub is_named : Tie → ℕ → Bool
is_named tie i = tie.low == i || tie.high == i

-- the ties that name a rail of these
abbrev pub ties_among : List ℕ → List Tie → List Tie
ties_among rails ties = filter (λ tie. is_taken rails tie.low || is_taken rails tie.high) ties

-- the ties that bind what moves with a rail
abbrev pub ties_at : Board → ℕ → List Tie
ties_at board r = ties_among (movers board.graph r) (ties_of board)
