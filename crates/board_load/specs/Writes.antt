-- The register writes that bring the rails of a board to where they are to stand.
use Rattle.std.specs.Prelude.{ℕ, ◌==◌, List, [], ◌∷◌, ◌++◌, flat_map, slice_get, slice_index, option_map, if◌then◌else◌}
use Rattle.std.specs.Option.{option_map_or}
use Rattle.board.specs.declared.board.Board.{Board}
use Rattle.board.specs.declared.part.Part.TheVariants.{Selector, ModePart}
use Rattle.board.specs.declared.rail.Rail.{Rail}
use Rattle.board.specs.Rail.{uv}
use Rattle.rail_law.specs.Moves.{Move}
use Rattle.plain_board.specs.Plan.{changing, mode_number, move_for, switch, table_selector}
use Rattle.board_load.specs.Start.{start_mode, starts_on}

-- a rail goes to its value, by the first selector that gives it; one that stands there already isn't written
abbrev pub selector_moves : List (List ℕ) → ℕ → ℕ → Rail → List Move
selector_moves regs target r rail = if uv rail regs == target then [] else move_for r Selector (table_selector rail target)

-- and then to its mode
abbrev pub start_mode_moves : ℕ → Rail → List Move
start_mode_moves r rail = move_for r ModePart (option_map mode_number (start_mode rail))

-- those of these moves that change a field
abbrev pub value_and_mode : Board → List (List ℕ) → List ℕ → ℕ → List Move
value_and_mode board regs targets r =
    option_map_or (λ rail. changing board regs (selector_moves regs (slice_index targets r) r rail ++ start_mode_moves r rail))
    (slice_get board.rails r) []

-- a rail that is to be on, and isn't, is switched on
abbrev pub on_moves : Board → List (List ℕ) → ℕ → List Move
on_moves board regs r = if starts_on board regs r then changing board regs (switch 1 r ∷ []) else []

-- all writes of loading: in the board's order each rail's value and mode, and then in the same order the on bits
abbrev pub loading_moves : Board → List (List ℕ) → List ℕ → List Move
loading_moves board regs targets = flat_map (value_and_mode board regs targets) board.order ++ flat_map (on_moves board regs) board.order
