-- The supplies above a rail, and the loops, by tests that compute.
use Rattle.std.specs.Prelude.{ℕ, ◌≤◌, Bool, false, List, [], slice_get}
use Rattle.std.specs.List.{list_any}
use Rattle.std.specs.Option.{option_map_or, option_to_list}
use Rattle.board_graph.specs.declared.graph.Graph.{Graph}
use Rattle.board_graph.specs.Graph.{count_of, supply_at, members}
use Rattle.board_graph.specs.Order.{is_taken}
use Rattle.board_graph.specs.Sets.{is_supply_of, grown_times, closure}

-- the supplies above a rail: the least set in which its supply is, and with each rail its supply; by
-- rising numbers
abbrev pub above : Graph → ℕ → List ℕ
above graph r = grown_times graph (is_supply_of graph) (option_to_list (supply_at graph r)) (count_of graph)

-- the first rail is the supply of the second, or a supply further up
abbrev pub is_above : Graph → ℕ → ℕ → Bool
is_above graph upper lower = is_taken (above graph lower) upper

-- the rail stands on a loop of supplies: it is above itself
abbrev pub is_on_supply_loop : Graph → ℕ → Bool
is_on_supply_loop graph r = is_above graph r r

-- the rails of a rail's block, by rising numbers
abbrev pub block_of : Graph → ℕ → List ℕ
block_of graph r = option_map_or (members graph) (slice_get graph.group r) []

-- the second rail has a supply that rests on the first
abbrev pub has_supply_on : Graph → ℕ → ℕ → Bool
has_supply_on graph r lower = option_map_or (λ supply. is_taken (closure graph supply) r) (supply_at graph lower) false

-- the rail stands on a loop of blocks: a rail of its block has a supply that rests on it
abbrev pub is_on_block_loop : Graph → ℕ → Bool
is_on_block_loop graph r = list_any (has_supply_on graph r) (block_of graph r)

-- the least number of such
pub record IsLeastSuch (Such : ℕ → Type 0) (r : ℕ) : Type 0 where
  pub such : Such r
  pub least : (other : ℕ) → Such other → r ≤ other
