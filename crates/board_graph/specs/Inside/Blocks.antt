-- The least rail of each block stands for it: the block's leader.
use Rattle.std.specs.Prelude.{ℕ, ◌≡◌, ◌<◌, ◌≤◌, ◌&&◌, not, Bool, false, cond, Contains, List, Option, None, Some, length, filter, flat_map, option_map, slice_get, slice_index, slice_index_or}
use Rattle.std.specs.List.{range_with_len}
use Rattle.std.specs.Option.{option_to_list}
use Rattle.board_graph.specs.declared.graph.Graph.{Graph}
use Rattle.board_graph.specs.Graph.{count_of, supply_at, AreOneBlock}
use Rattle.board_graph.specs.Inside.Lists.{AreLists}
use Rattle.board_graph.specs.declared.feeds.Feeds.{Feeds}
use Rattle.board_graph.specs.Sets.{is_linked_at, closure, movers}

-- for each rail the least rail with its group
pub record AreLeaders (groups leaders : List ℕ) : Type 0 where
  pub size : length leaders ≡ length groups
  pub least : (r : ℕ) → r < length groups → slice_index leaders r ≤ r
  pub block : (r : ℕ) → r < length groups → slice_get groups (slice_index leaders r) ≡ slice_get groups r
  pub one : (q r : ℕ) → q < length groups → r < length groups → slice_get groups q ≡ slice_get groups r → slice_index leaders q ≡ slice_index leaders r

-- the supply of a rail, or only one that it is linked to
abbrev pub feeder_of : Graph → Bool → ℕ → Option ℕ
feeder_of graph only_linked r = cond (only_linked && not (is_linked_at graph r)) None (supply_at graph r)

-- the leaders of a rail's feeder and of the rail
abbrev pub feed_at : Graph → List ℕ → Bool → ℕ → List (ℕ × ℕ)
feed_at graph leaders only_linked r = option_to_list (option_map (λ upper. (slice_index leaders upper, slice_index leaders r)) (feeder_of graph only_linked r))

-- of each of the first rails the leaders of its feeder and of itself
abbrev pub feeds_of : Graph → List ℕ → Bool → ℕ → List (ℕ × ℕ)
feeds_of graph leaders only_linked count = flat_map (feed_at graph leaders only_linked) (range_with_len 0 count)

-- the rails whose leader is marked
abbrev pub led_by : List ℕ → List Bool → ℕ → List ℕ
led_by leaders marks count = filter (λ r. slice_index_or marks (slice_index leaders r) false) (range_with_len 0 count)

-- what is known of the leaders of the first rails, with the first rail of each group among them
pub record KnowsLeaders (groups leaders : List ℕ) (first_of : ℕ → Option ℕ) (count : ℕ) : Type 0 where
  pub size : length leaders ≡ count
  pub known : (r : ℕ) → r < count → first_of (slice_index groups r) ≡ Some (slice_index leaders r)
  pub from : (group first : ℕ) → first_of group ≡ Some first → (first < count) × (slice_index groups first ≡ group)
  pub least : (r : ℕ) → r < count → slice_index leaders r ≤ r

-- a rail of the first leader's block feeds one of the second's
pub record FeedsLeader (graph : Graph) (leaders : List ℕ) (only_linked : Bool) (above below : ℕ) : Type 0 where
  pub upper : ℕ
  pub lower : ℕ
  pub feeds : feeder_of graph only_linked lower ≡ Some upper
  pub leads_upper : slice_index leaders upper ≡ above
  pub leads_lower : slice_index leaders lower ≡ below

-- a set in which each rail's block and feeder are
pub record HoldsFeeders (graph : Graph) (only_linked : Bool) (set : List ℕ) : Type 0 where
  pub blocks : (a b : ℕ) → AreOneBlock graph a b → Contains set b → Contains set a
  pub feeders : (upper lower : ℕ) → feeder_of graph only_linked lower ≡ Some upper → Contains set lower → Contains set upper

-- what a rail rests on, or only what moves with it
abbrev pub upward : Graph → ℕ → Bool → List ℕ
upward graph r only_linked = cond only_linked (movers graph r) (closure graph r)

-- for each rail a rail
pub record AreRails (count : ℕ) (leaders : List ℕ) : Type 0 where
  pub size : length leaders ≡ count
  pub below : (r : ℕ) → r < count → slice_index leaders r < count

-- the feeds of a graph's rails by their leaders
pub record AreFeedsOf (graph : Graph) (leaders : List ℕ) (feeds : Feeds) : Type 0 where
  pub pairs : feeds.pairs ≡ feeds_of graph leaders false (count_of graph)
  pub lists : AreLists (count_of graph) feeds.pairs feeds.down
