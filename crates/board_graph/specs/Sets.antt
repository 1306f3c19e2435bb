-- The sets of rails that go with a rail: what guards it, what it rests on, and what moves with it.
use Rattle.std.specs.Prelude.{ℕ, zero, suc, ◌≡◌, ◌<◌, Bool, true, false, nat_eq, ◌&&◌, ◌||◌, List, [], ◌∷◌, filter, unwrap_or, slice_get, Contains, AllPairs}
use Rattle.std.specs.List.{list_any, range_with_len}
use Rattle.std.specs.Option.{option_map_or}
use Rattle.board_graph.specs.declared.graph.Graph.{Graph}
use Rattle.board_graph.specs.Graph.{count_of, supply_at, Supplies, AreOneBlock}
use Rattle.board_graph.specs.Order.{is_taken}

-- the rails, by rising numbers
abbrev pub rails_of : Graph → List ℕ
rails_of graph = range_with_len 0 (count_of graph)

-- the first rail is the supply of the second
abbrev pub is_supply_of : Graph → ℕ → ℕ → Bool
is_supply_of graph upper lower = option_map_or (nat_eq upper) (supply_at graph lower) false

-- the two rails are of one block, and may be one rail
abbrev pub is_block_of : Graph → ℕ → ℕ → Bool
is_block_of graph a b =
    option_map_or (λ group. option_map_or (nat_eq group) (slice_get graph.group a) false) (slice_get graph.group b) false

-- the rail ties its supply by a dropout
abbrev pub is_linked_at : Graph → ℕ → Bool
is_linked_at graph r = unwrap_or (slice_get graph.link r) false

-- the rail ties its supply by a dropout
abbrev pub IsLinked : Graph → ℕ → Type 0
IsLinked graph r = is_linked_at graph r ≡ true

-- the first rail is the second one's supply, or of its block
abbrev pub is_guard_of : Graph → ℕ → ℕ → Bool
is_guard_of graph i r = is_supply_of graph i r || is_block_of graph i r

-- the first rail moves where the second one does: it is of its block, or the supply that it is linked to
abbrev pub moves_with : Graph → ℕ → ℕ → Bool
moves_with graph i r = is_supply_of graph i r && is_linked_at graph r || is_block_of graph i r

-- what guards a rail: its block, in which it is itself, and its supply; by rising numbers
abbrev pub guard_of : Graph → ℕ → List ℕ
guard_of graph r = filter (λ i. is_guard_of graph i r) (rails_of graph)

-- a set of rails, and what any of them takes in
abbrev pub grown : Graph → (ℕ → ℕ → Bool) → List ℕ → List ℕ
grown graph takes set = filter (λ i. is_taken set i || list_any (takes i) set) (rails_of graph)

-- what a set has grown to after so many times
abbrev pub grown_times : Graph → (ℕ → ℕ → Bool) → List ℕ → ℕ → List ℕ
grown_times graph takes set zero = set
grown_times graph takes set (suc times) = grown graph takes (grown_times graph takes set times)

-- what a rail rests on: the least set with it in which each rail's block and supply are, by rising
-- numbers. It has grown as many times as there are rails, and grows no more.
-- Where rail 0 is linked to its supply, rail 1, which is coupled with rail 2, it is all three of
-- rail 0, and 1 and 2 of rail 1.
abbrev pub closure : Graph → ℕ → List ℕ
closure graph r = grown_times graph (is_guard_of graph) (r ∷ []) (count_of graph)

-- what moves with a rail: the least set with it in which each rail's block is, and the supply that it
-- is linked to; by rising numbers. A supply moves without the rails that are linked to it.
abbrev pub movers : Graph → ℕ → List ℕ
movers graph r = grown_times graph (moves_with graph) (r ∷ []) (count_of graph)

-- a set in which each rail's block and supply are
pub record HoldsGuards (graph : Graph) (set : List ℕ) : Type 0 where
  pub blocks : (a b : ℕ) → AreOneBlock graph a b → Contains set b → Contains set a
  pub supplies : (upper lower : ℕ) → Supplies graph upper lower → Contains set lower → Contains set upper

-- a set in which each rail's block is, and the supply that it is linked to
pub record HoldsMovers (graph : Graph) (set : List ℕ) : Type 0 where
  pub blocks : (a b : ℕ) → AreOneBlock graph a b → Contains set b → Contains set a
  pub links : (upper lower : ℕ) → Supplies graph upper lower → IsLinked graph lower → Contains set lower → Contains set upper

-- the least of such sets with a rail, by rising numbers
pub record IsLeastWith (Such : List ℕ → Type 0) (r : ℕ) (set : List ℕ) : Type 0 where
  pub has : Contains set r
  pub such : Such set
  pub least : (other : List ℕ) → Such other → Contains other r → (i : ℕ) → Contains set i → Contains other i
  pub rising : AllPairs (λ i j. i < j) set
