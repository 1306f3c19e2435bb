-- Sets of rails worked out by hand.
use Rattle.std.proofs.Common.{◌≡◌, true, false, [], ◌∷◌, Some, None, refl}
use Rattle.board_graph.specs.declared.graph.Graph.{Graph}
use Rattle.board_graph.specs.Sets.{rails_of, is_supply_of, is_block_of, is_linked_at, guard_of, grown, closure, movers, is_guard_of}

-- rail 3 is linked to its supply, rail 1, which is coupled with rail 2 and has its supply in rail 4,
-- without a link; rail 0 is linked to rail 3
abbrev tower : Graph
tower = record {
  supply = Some 3 ∷ Some 4 ∷ None ∷ Some 1 ∷ None ∷ [];
  group = 0 ∷ 7 ∷ 7 ∷ 3 ∷ 4 ∷ [];
  link = true ∷ false ∷ false ∷ true ∷ false ∷ [];
}

rails : rails_of tower ≡ 0 ∷ 1 ∷ 2 ∷ 3 ∷ 4 ∷ []
rails = refl

supply : is_supply_of tower 4 1 ≡ true
supply = refl

not_the_supplied : is_supply_of tower 1 4 ≡ false
not_the_supplied = refl

no_supply : is_supply_of tower 0 2 ≡ false
no_supply = refl

one_block : is_block_of tower 2 1 ≡ true
one_block = refl

block_of_itself : is_block_of tower 3 3 ≡ true
block_of_itself = refl

two_blocks : is_block_of tower 3 1 ≡ false
two_blocks = refl

no_rail_no_block : is_block_of tower 5 5 ≡ false
no_rail_no_block = refl

linked : is_linked_at tower 3 ≡ true
linked = refl

not_linked : is_linked_at tower 1 ≡ false
not_linked = refl

no_rail_no_link : is_linked_at tower 5 ≡ false
no_rail_no_link = refl

-- a rail, the one that it is coupled with and its supply, and not the supply of that or what it supplies
guard_of_coupled : guard_of tower 1 ≡ 1 ∷ 2 ∷ 4 ∷ []
guard_of_coupled = refl

guard_without_supply : guard_of tower 2 ≡ 1 ∷ 2 ∷ []
guard_without_supply = refl

guard_of_first : guard_of tower 0 ≡ 0 ∷ 3 ∷ []
guard_of_first = refl

guard_of_none : guard_of tower 5 ≡ []
guard_of_none = refl

-- one growth takes in the supply, and not yet what goes with it
grown_once : grown tower (is_guard_of tower) (3 ∷ []) ≡ 1 ∷ 3 ∷ []
grown_once = refl

closure_of_first : closure tower 0 ≡ 0 ∷ 1 ∷ 2 ∷ 3 ∷ 4 ∷ []
closure_of_first = refl

closure_of_coupled : closure tower 2 ≡ 1 ∷ 2 ∷ 4 ∷ []
closure_of_coupled = refl

closure_of_last : closure tower 4 ≡ 4 ∷ []
closure_of_last = refl

-- the supply without a link isn't moved, nor what is linked to the rail
movers_of_first : movers tower 0 ≡ 0 ∷ 1 ∷ 2 ∷ 3 ∷ []
movers_of_first = refl

movers_of_linked : movers tower 3 ≡ 1 ∷ 2 ∷ 3 ∷ []
movers_of_linked = refl

movers_of_coupled : movers tower 2 ≡ 1 ∷ 2 ∷ []
movers_of_coupled = refl

movers_of_last : movers tower 4 ≡ 4 ∷ []
movers_of_last = refl

-- a chain whose growth takes as many times as there are rails above the first
abbrev chain : Graph
chain = record { supply = Some 1 ∷ Some 2 ∷ Some 3 ∷ None ∷ []; group = 0 ∷ 1 ∷ 2 ∷ 3 ∷ []; link = true ∷ true ∷ true ∷ false ∷ [] }

closure_of_chain : closure chain 0 ≡ 0 ∷ 1 ∷ 2 ∷ 3 ∷ []
closure_of_chain = refl

movers_of_chain : movers chain 1 ≡ 1 ∷ 2 ∷ 3 ∷ []
movers_of_chain = refl
