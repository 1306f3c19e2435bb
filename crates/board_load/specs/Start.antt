-- Where the rails of a board are to stand after loading, by the registers that were found.
use Rattle.std.specs.Prelude.{ℕ, Bool, ◌==◌, ◌&&◌, ◌||◌, nat_le, max, List, [], ◌∷◌, map, filter, find, Option, None, Some, unwrap_or, if◌then◌else◌}
use Rattle.std.specs.List.{enumerate_from, list_any}
use Rattle.std.specs.Option.{is_none, option_map_or}
use Rattle.load_modes.specs.declared.mode.Mode.{Mode}
use Rattle.load_modes.specs.Modes.{mode_of_load}
use Rattle.board_graph.specs.Loops.{is_above}
use Rattle.board_graph.specs.Order.{is_taken}
use Rattle.board_graph.specs.Sets.{rails_of, movers}
use Rattle.board.specs.declared.board.Board.{Board}
use Rattle.board.specs.declared.rail.Rail.{Rail}
use Rattle.board.specs.Rail.{uv, is_on, is_within, counts_loads}
use Rattle.board.specs.Table.{values_of}
use Rattle.rail_law.specs.Ties.{Tie}
use Rattle.rail_law.specs.BoardTies.{ties_of}
use Rattle.rail_law.specs.Least.{least_vector}

-- the values of a rail's table within bounds, in µV
abbrev pub values_inside : Rail → ℕ × ℕ → List ℕ
values_inside rail bounds = filter (is_within (Some bounds)) (map (λ pair. pair.1) (values_of rail.desc.table))

-- the values that a rail may be given: with bounds those of its table within them, and without the one that it is found at
abbrev pub loadable : Rail → List (List ℕ) → List ℕ
loadable rail regs = option_map_or (values_inside rail) rail.limits.bounds (uv rail regs ∷ [])

-- the greatest of some numbers
abbrev pub greatest : List ℕ → Option ℕ
greatest [] = None
greatest (n ∷ ns) = Some (option_map_or (max n) (greatest ns) n)

-- the floor of a rail: one that is found on isn't lowered further than to the next of its values below, if there is one
abbrev pub floor : Rail → List (List ℕ) → ℕ
floor rail regs =
    if is_on rail regs then unwrap_or (greatest (filter (λ value. nat_le value (uv rail regs)) (loadable rail regs))) 0 else 0

-- the values that a rail may be given, from its floor on
abbrev pub start_values : Rail → List (List ℕ) → List ℕ
start_values rail regs = filter (nat_le (floor rail regs)) (loadable rail regs)

-- where the rails are to stand: the least of these values, rail by rail, that keep all ties of the board
abbrev pub targets : Board → List (List ℕ) → Option (List ℕ)
targets board regs = least_vector (map (λ rail. start_values rail regs) board.rails) (ties_of board)

-- the values of the rails that move with one; each other rail is left out of it, and has a 0 that no tie names
abbrev pub choices_within : List ℕ → Board → List (List ℕ) → List (List ℕ)
choices_within moving board regs =
    map (λ rail. if is_taken moving rail.0 then start_values rail.1 regs else 0 ∷ []) (enumerate_from 0 board.rails)

-- the ties between these rails
abbrev pub ties_within : List ℕ → List Tie → List Tie
ties_within moving ties = filter (λ tie. is_taken moving tie.low && is_taken moving tie.high) ties

-- no values of what moves with rail r keep the ties between them
abbrev pub lacks_vector : Board → List (List ℕ) → ℕ → Bool
lacks_vector board regs r =
    let moving = movers board.graph r in
    is_none (least_vector (choices_within moving board regs) (ties_within moving (ties_of board)))

-- the least rail of which that holds
abbrev pub no_vector : Board → List (List ℕ) → Option ℕ
no_vector board regs = find (lacks_vector board regs) (rails_of board.graph)

-- the rail is to be on, and is held so: it was found on, or is always on, or is on from the start
abbrev pub is_asked_on : List (List ℕ) → Rail → Bool
is_asked_on regs rail = is_on rail regs || rail.limits.always_on || rail.limits.boot_on

-- rail i is on after loading: it is to be, or one is that it supplies, directly or further down
abbrev pub starts_on : Board → List (List ℕ) → ℕ → Bool
starts_on board regs i =
    list_any (λ rail. is_asked_on regs rail.1 && (rail.0 == i || is_above board.graph i rail.0)) (enumerate_from 0 board.rails)

-- the mode that a rail gets: where loads choose it the one for the load that no consumer tells, else the one that its node asks for, if any
abbrev pub start_mode : Rail → Option Mode
start_mode rail =
    if counts_loads rail then mode_of_load rail.desc.greatest rail.limits.allowed rail.limits.system_load else rail.limits.initial
