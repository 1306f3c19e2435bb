-- The rails of a board by their numbers: a test of one, and which are coupled.
use Rattle.std.specs.Prelude.{ℕ, ◌<◌, Bool, false, not, ◌==◌, ◌&&◌, length, All, slice_get, slice_index}
use Rattle.std.specs.List.{list_any}
use Rattle.std.specs.Option.{option_map_or}
use Rattle.board_graph.specs.declared.graph.Graph.{Graph}
use Rattle.board_graph.specs.Sets.{rails_of, is_block_of}
use Rattle.board.specs.declared.board.Board.{Board}
use Rattle.board.specs.declared.rail.Rail.{Rail}

-- a test of a rail by its number
abbrev pub tests_rail : (Rail → Bool) → Board → ℕ → Bool
tests_rail test board r = option_map_or test (slice_get board.rails r) false

-- two rails are coupled
abbrev pub are_coupled : Graph → ℕ → ℕ → Bool
are_coupled graph a b = not (a == b) && is_block_of graph a b

-- the rail is coupled with some other one
abbrev pub is_coupled : Graph → ℕ → Bool
is_coupled graph r = list_any (are_coupled graph r) (rails_of graph)

-- how far coupled rails of the rail's group may differ
abbrev pub spread_at : Board → ℕ → ℕ
spread_at board r = option_map_or (slice_index board.spread) (slice_get board.graph.group r) 0

-- each rail's group has a spread
abbrev pub HaveSpreads : Board → Type 0
HaveSpreads board = All (λ rail. rail.group < length board.spread) board.rails
