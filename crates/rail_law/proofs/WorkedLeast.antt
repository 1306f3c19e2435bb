-- Least values worked out by hand.
use Rattle.std.proofs.Common.{◌≡◌, ℕ, ◌&&◌, true, List, [], ◌∷◌, Some, None, refl, cond, eqb, leb, map, length}
use Rattle.linear_range.specs.Values.{values}
use Rattle.board_graph.specs.Sets.{closure, movers}
use Rattle.board.proofs.Boards.{coupled_board, supplied_board, gaping_board}
use Rattle.rail_law.specs.Least.{assignments, admissible, lower, higher, lowest, least_vector, choices_of, least_of}
use Rattle.rail_law.proofs.WorkedBoardTies.{at_most_above}

all_assignments : assignments ((1 ∷ 2 ∷ []) ∷ (3 ∷ []) ∷ (4 ∷ 5 ∷ []) ∷ []) ≡ (1 ∷ 3 ∷ 4 ∷ []) ∷ (1 ∷ 3 ∷ 5 ∷ []) ∷ (2 ∷ 3 ∷ 4 ∷ []) ∷ (2 ∷ 3 ∷ 5 ∷ []) ∷ []
all_assignments = refl

no_value_no_assignment : assignments ((1 ∷ 2 ∷ []) ∷ [] ∷ []) ≡ []
no_value_no_assignment = refl

assignment_of_none : assignments [] ≡ [] ∷ []
assignment_of_none = refl

lower_of_two : lower (1 ∷ 5 ∷ []) (4 ∷ 2 ∷ []) ≡ 1 ∷ 2 ∷ []
lower_of_two = refl

higher_of_two : higher (1 ∷ 5 ∷ []) (4 ∷ 2 ∷ []) ≡ 4 ∷ 5 ∷ []
higher_of_two = refl

lowest_of_three : lowest ((3 ∷ 5 ∷ []) ∷ (4 ∷ 2 ∷ []) ∷ (1 ∷ 9 ∷ []) ∷ []) ≡ Some (1 ∷ 2 ∷ [])
lowest_of_three = refl

lowest_of_none : lowest [] ≡ None
lowest_of_none = refl

-- rail 0 may not be above rail 1
those_that_keep : admissible ((1 ∷ 4 ∷ []) ∷ (3 ∷ 5 ∷ []) ∷ []) (at_most_above 0 1 0 ∷ []) ≡ (1 ∷ 3 ∷ []) ∷ (1 ∷ 5 ∷ []) ∷ (4 ∷ 5 ∷ []) ∷ []
those_that_keep = refl

-- the values stand in no order; (1, 3) breaks the first tie, and (5, 4), (5, 3) and (4, 4) keep both too
least_of_pair : least_vector ((5 ∷ 4 ∷ 1 ∷ []) ∷ (4 ∷ 3 ∷ []) ∷ []) (at_most_above 1 0 1 ∷ at_most_above 0 1 2 ∷ []) ≡ Some (4 ∷ 3 ∷ [])
least_of_pair = refl

-- 0 or 100 beside 30 or 130, 40 apart at the most: neither goes up or down alone, but both together
both_down : least_of gaping_board (0 ∷ 30 ∷ []) (λ i uv. true) 0 ≡ Some (0 ∷ 30 ∷ [])
both_down = refl

both_up : least_of gaping_board (0 ∷ 30 ∷ []) (λ i uv. cond (eqb i 0) (leb 50 uv) true) 0 ≡ Some (100 ∷ 130 ∷ [])
both_up = refl

one_up : least_of gaping_board (0 ∷ 30 ∷ []) (λ i uv. cond (eqb i 0) (leb 50 uv) (leb uv 100)) 0 ≡ None
one_up = refl

-- the coupled bucks stand at 800000 µV
abbrev pair_stands : List ℕ
pair_stands = 800000 ∷ 800000 ∷ []

-- rail 0 is asked to be at 1000000 µV: rail 1 has to follow to 900000 µV
pulled_up : least_of coupled_board pair_stands (λ i uv. cond (eqb i 0) (leb 1000000 uv) true) 0 ≡ Some (1000000 ∷ 900000 ∷ [])
unfolding values
pulled_up = refl

-- and can't where rail 1 is asked to be at 890000 µV at the most
held_down : least_of coupled_board pair_stands (λ i uv. cond (eqb i 0) (leb 1000000 uv) (leb uv 890000)) 0 ≡ None
unfolding values
held_down = refl

both_move : map length (choices_of coupled_board pair_stands (λ i uv. leb 800001 uv) 1) ≡ 32 ∷ 32 ∷ []
unfolding values
both_move = refl

-- the buck at 1300000 µV, the ldo at 1200000 µV, and the battery; the ldo rests on all, and moves with the buck
abbrev chain_stands : List ℕ
chain_stands = 1300000 ∷ 1200000 ∷ 5000000 ∷ []

rests_on_all : closure supplied_board.graph 1 ≡ 0 ∷ 1 ∷ 2 ∷ []
rests_on_all = refl

ldo_moves_buck : movers supplied_board.graph 1 ≡ 0 ∷ 1 ∷ []
ldo_moves_buck = refl

buck_moves_alone : movers supplied_board.graph 0 ≡ 0 ∷ []
buck_moves_alone = refl

-- nobody looks at the battery
choices_of_chain : choices_of supplied_board chain_stands (λ i uv. leb 2900000 uv) 1 ≡ (2900000 ∷ 3000000 ∷ 3100000 ∷ []) ∷ (3000000 ∷ 3200000 ∷ 3300000 ∷ []) ∷ (0 ∷ []) ∷ []
unfolding values
choices_of_chain = refl

-- the buck moves, and the ldo that is tied to it stays where it stands
choices_of_buck : choices_of supplied_board chain_stands (λ i uv. leb 2900000 uv) 0 ≡ (2900000 ∷ 3000000 ∷ 3100000 ∷ []) ∷ (1200000 ∷ []) ∷ (0 ∷ []) ∷ []
unfolding values
choices_of_buck = refl

least_of_buck : least_of supplied_board chain_stands (λ i uv. true) 0 ≡ Some (1300000 ∷ 1200000 ∷ 0 ∷ [])
unfolding values
least_of_buck = refl

-- the battery is tied to nothing, and the ties of the others don't count though they stand as 0
least_of_battery : least_of supplied_board chain_stands (λ i uv. true) 2 ≡ Some (0 ∷ 0 ∷ 5000000 ∷ [])
unfolding values
least_of_battery = refl

ldo_up : least_of supplied_board chain_stands (λ i uv. cond (eqb i 1) (eqb uv 1800000) true) 1 ≡ Some (1900000 ∷ 1800000 ∷ 0 ∷ [])
unfolding values
ldo_up = refl

ldo_down : least_of supplied_board (1900000 ∷ 1800000 ∷ 5000000 ∷ []) (λ i uv. cond (eqb i 1) (eqb uv 1200000) true) 1 ≡ Some (1300000 ∷ 1200000 ∷ 0 ∷ [])
unfolding values
ldo_down = refl

-- the buck is asked to be at 1850000 µV at the most, and would have to be at 1900000
buck_held : least_of supplied_board chain_stands (λ i uv. cond (eqb i 1) (eqb uv 1800000) (leb 1000000 uv && leb uv 1850000)) 1 ≡ None
unfolding values
buck_held = refl
