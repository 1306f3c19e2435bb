-- The plain board once the first so many moves of a call were made.
use Rattle.std.specs.Prelude.{ℕ, true, false, List, [], ◌∷◌, ◌++◌, map, flat_map, take, option_to_list, slice_get}
use Rattle.std.specs.List.{enumerate_from}
use Rattle.std.specs.Option.{option_map_or}
use Rattle.board.specs.declared.board.Board.{Board}
use Rattle.board.specs.declared.event.Event.{Event}
use Rattle.board.specs.Rail.{uv}
use Rattle.rail_law.specs.Moves.{Move, after_moves}
use Rattle.plain_board.specs.declared.plain.Plain.{Plain}
use Rattle.plain_board.specs.Events.{voltage_events, events_of_move}

-- where rail i stands
abbrev pub uv_at : Board → List (List ℕ) → ℕ → ℕ
uv_at board regs i = option_map_or (λ rail. uv rail regs) (slice_get board.rails i) 0

-- what rail i tells once the first `made` of these moves were made, and the next one, if there is one, was refused
abbrev pub events_of : Board → List (List ℕ) → List Move → ℕ → ℕ → List Event
events_of board regs moves made i =
    voltage_events (uv_at board regs i) (uv_at board (after_moves board regs moves) i) (uv_at board (after_moves board regs (take made moves)) i)
    ++ flat_map (events_of_move i true) (take made moves)
    ++ flat_map (events_of_move i false) (option_to_list (slice_get moves made))

-- the plain board with the registers and the events after them
abbrev pub after_first : Board → Plain → ℕ → List Move → Plain
after_first board plain made [] = plain
after_first board plain made (move ∷ moves) = record plain {
  regs = after_moves board plain.regs (take made (move ∷ moves));
  events = map (λ told. told.1 ++ events_of board plain.regs (move ∷ moves) made told.0) (enumerate_from 0 plain.events);
}
