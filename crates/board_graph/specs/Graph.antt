-- How the rails of a board supply each other, and which move together.
use Rattle.std.specs.Prelude.{ℕ, ◌≡◌, ◌≢◌, ◌<◌, ◌≤◌, ◌==◌, List, map, filter, length, All, Option, Some, slice_get, IfSome, option_and_then}
use Rattle.std.specs.List.{enumerate_from}
use Rattle.board_graph.specs.declared.graph.Graph.{Graph}
use Rattle.board_graph.specs.Ways.{Leads}

-- how many rails there are
abbrev pub count_of : Graph → ℕ
count_of graph = length graph.group

-- so few rails that each has a number of 16 bits, and so has their count
abbrev pub IsRailCount : ℕ → Type 0
IsRailCount count = count ≤ 65535

-- each list has an entry a rail, rails have numbers, and each supply is a rail
pub record IsGraph (graph : Graph) : Type 0 where
  pub supplies : length graph.supply ≡ count_of graph
  pub links : length graph.link ≡ count_of graph
  pub few : IsRailCount (count_of graph)
  pub rails : All (λ supply. IfSome supply (λ s. s < count_of graph)) graph.supply

-- the supply of a rail, where it has one
abbrev pub supply_at : Graph → ℕ → Option ℕ
supply_at graph r = option_and_then (λ supply. supply) (slice_get graph.supply r)

-- the first rail is the supply of the second
abbrev pub Supplies : Graph → ℕ → ℕ → Type 0
Supplies graph upper lower = supply_at graph lower ≡ Some upper

-- the first rail is the supply of the second, or a supply further up
abbrev pub IsAbove : Graph → ℕ → ℕ → Type 0
IsAbove graph upper lower = Leads (Supplies graph) upper lower

-- a rail that is a supply of its own stands on a loop of supplies
abbrev pub IsOnSupplyLoop : Graph → ℕ → Type 0
IsOnSupplyLoop graph r = IsAbove graph r r

-- the rail is in the group
abbrev pub IsIn : Graph → ℕ → ℕ → Type 0
IsIn graph group r = slice_get graph.group r ≡ Some group

-- two rails of one group, which may be one rail: they are of one block
pub record AreOneBlock (graph : Graph) (a b : ℕ) : Type 0 where
  pub group : ℕ
  pub first : IsIn graph group a
  pub second : IsIn graph group b

-- two rails of one block are coupled
pub record AreCoupled (graph : Graph) (a b : ℕ) : Type 0 where
  pub apart : a ≢ b
  pub block : AreOneBlock graph a b

-- the rails of a group, by rising numbers
abbrev pub members : Graph → ℕ → List ℕ
members graph group = map (λ p. p.0) (filter (λ p. p.1 == group) (enumerate_from 0 graph.group))

-- a rail of the first group is the supply of a rail of the second
pub record Feeds (graph : Graph) (above below : ℕ) : Type 0 where
  pub upper : ℕ
  pub lower : ℕ
  pub supplies : Supplies graph upper lower
  pub in_above : IsIn graph above upper
  pub in_below : IsIn graph below lower

-- the rail's block feeds itself, or a block that feeds it in the end
pub record IsOnBlockLoop (graph : Graph) (r : ℕ) : Type 0 where
  pub group : ℕ
  pub in_group : IsIn graph group r
  pub loop : Leads (Feeds graph) group group
