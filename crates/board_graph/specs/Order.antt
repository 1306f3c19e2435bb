-- The order in which the rails of a board come up.
use Rattle.std.specs.Prelude.{ℕ, ◌≡◌, ◌<◌, Bool, true, not, ◌&&◌, nat_eq, List, [], ◌∷◌, ◌++◌, Option, Some, option_map, find, flat_map, Contains}
use Rattle.std.specs.List.{list_any, list_all, enumerate_from}
use Rattle.std.specs.Option.{option_map_or}
use Rattle.board_graph.specs.declared.graph.Graph.{Graph}
use Rattle.board_graph.specs.Graph.{count_of, supply_at, members}

-- the rail is among those that are taken
abbrev pub is_taken : List ℕ → ℕ → Bool
is_taken taken r = list_any (nat_eq r) taken

-- the rail's supply is taken, where it has one
abbrev pub is_supplied : Graph → List ℕ → ℕ → Bool
is_supplied graph taken r = option_map_or (is_taken taken) (supply_at graph r) true

-- a rail, given with its group, may come next: it isn't taken, and the supplies of all rails of the group are
abbrev pub is_ready : Graph → List ℕ → ℕ × ℕ → Bool
is_ready graph taken rail = not (is_taken taken rail.0) && list_all (is_supplied graph taken) (members graph rail.1)

-- the group that comes next: that of the least rail that may
abbrev pub next_group : Graph → List ℕ → Option ℕ
next_group graph taken = option_map (λ p. p.1) (find (is_ready graph taken) (enumerate_from 0 graph.group))

-- once these rails are taken, the groups come one after another
abbrev pub ComeInTurn : Graph → List ℕ → List ℕ → Type 0
ComeInTurn graph taken [] = Unit {0}
ComeInTurn graph taken (group ∷ groups) =
    (next_group graph taken ≡ Some group) × ComeInTurn graph (taken ++ members graph group) groups

-- The rails block by block, those of a block by rising numbers. Of the blocks whose supplies are
-- all taken the next one is that with the least rail, until all rails are taken.
-- Where rail 0 has its supply in rail 2, and 1 and 2 are coupled, the order is 1, 2, 0.
pub record IsOrder (graph : Graph) (order : List ℕ) : Type 0 where
  pub groups : List ℕ
  pub blocks : order ≡ flat_map (members graph) groups
  pub turns : ComeInTurn graph [] groups
  pub all : (r : ℕ) → r < count_of graph → Contains order r
