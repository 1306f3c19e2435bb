-- Supplies above rails, and loops, worked out by hand.
use Rattle.std.proofs.Common.{◌≡◌, true, false, [], ◌∷◌, Some, None, refl}
use Rattle.board_graph.specs.declared.graph.Graph.{Graph}
use Rattle.board_graph.specs.Loops.{above, is_above, is_on_supply_loop, block_of, has_supply_on, is_on_block_loop}

-- rails 0 and 1 supply each other, and rail 2 has its supply in rail 1; rail 4 has its supply in rail 3
abbrev pair : Graph
pair = record {
  supply = Some 1 ∷ Some 0 ∷ Some 1 ∷ None ∷ Some 3 ∷ [];
  group = 0 ∷ 1 ∷ 2 ∷ 3 ∷ 4 ∷ [];
  link = false ∷ false ∷ false ∷ false ∷ false ∷ [];
}

above_one_on_loop : above pair 0 ≡ 0 ∷ 1 ∷ []
above_one_on_loop = refl

above_one_that_hangs : above pair 2 ≡ 0 ∷ 1 ∷ []
above_one_that_hangs = refl

above_the_last : above pair 4 ≡ 3 ∷ []
above_the_last = refl

above_none : above pair 3 ≡ []
above_none = refl

above_no_rail : above pair 5 ≡ []
above_no_rail = refl

is_supply : is_above pair 1 2 ≡ true
is_supply = refl

is_further_up : is_above pair 0 2 ≡ true
is_further_up = refl

is_below : is_above pair 2 0 ≡ false
is_below = refl

first_on_loop : is_on_supply_loop pair 0 ≡ true
first_on_loop = refl

second_on_loop : is_on_supply_loop pair 1 ≡ true
second_on_loop = refl

hangs_on_loop : is_on_supply_loop pair 2 ≡ false
hangs_on_loop = refl

without_supply : is_on_supply_loop pair 3 ≡ false
without_supply = refl

apart_from_loop : is_on_supply_loop pair 4 ≡ false
apart_from_loop = refl

-- where each rail is its own block, a loop of supplies is one of blocks
loop_of_lone_rails : is_on_block_loop pair 1 ≡ true
loop_of_lone_rails = refl

hangs_on_block_loop : is_on_block_loop pair 2 ≡ false
hangs_on_block_loop = refl

-- rails 0 and 3 are coupled; rail 3 has its supply in rail 1, and that in rail 0; rail 2 has its supply
-- in rail 3
abbrev blocks : Graph
blocks = record {
  supply = None ∷ Some 0 ∷ Some 3 ∷ Some 1 ∷ [];
  group = 9 ∷ 1 ∷ 2 ∷ 9 ∷ [];
  link = false ∷ false ∷ false ∷ false ∷ [];
}

block_of_first : block_of blocks 0 ≡ 0 ∷ 3 ∷ []
block_of_first = refl

block_of_none : block_of blocks 4 ≡ []
block_of_none = refl

supply_on_first : has_supply_on blocks 0 3 ≡ true
supply_on_first = refl

supply_not_on_third : has_supply_on blocks 2 3 ≡ false
supply_not_on_third = refl

no_supply : has_supply_on blocks 0 0 ≡ false
no_supply = refl

no_supply_loop : is_on_supply_loop blocks 3 ≡ false
no_supply_loop = refl

-- rail 0 has no supply of its own, but rail 3, with which it is coupled
first_of_pair : is_on_block_loop blocks 0 ≡ true
first_of_pair = refl

second_of_pair : is_on_block_loop blocks 3 ≡ true
second_of_pair = refl

between_them : is_on_block_loop blocks 1 ≡ true
between_them = refl

hangs_on_pair : is_on_block_loop blocks 2 ≡ false
hangs_on_pair = refl

no_rail : is_on_block_loop blocks 4 ≡ false
no_rail = refl

-- two rails that are coupled, of which one supplies the other
abbrev own_supply : Graph
own_supply = record { supply = None ∷ Some 0 ∷ []; group = 4 ∷ 4 ∷ []; link = false ∷ false ∷ [] }

own_block : is_on_block_loop own_supply 1 ≡ true
own_block = refl

no_loop_of_supplies : is_on_supply_loop own_supply 1 ≡ false
no_loop_of_supplies = refl
