-- Ways worked out by hand.
use Rattle.std.proofs.Common.{◌≡◌, ℕ, ◌*◌, Bool, List, [], ◌∷◌, Some, None, refl, ltb, length, take, drop}
use Rattle.linear_range.specs.Values.{values}
use Rattle.chip_regs.specs.Registers.{field_of, byte_of, with_field, with_byte}
use Rattle.board_graph.specs.declared.graph.Graph.{Graph}
use Rattle.board.specs.declared.part.Part.TheVariants.{Selector, Enable, ModePart}
use Rattle.board.specs.declared.rail.Rail.{Rail}
use Rattle.board.specs.declared.table.Table.TheVariants.{List as Listed}
use Rattle.board.proofs.Boards.{low_bits, io_rail, battery, coupled_board, supplied_board}
use Rattle.rail_law.specs.BoardTies.{standing_values}
use Rattle.rail_law.specs.Moves.{Move, selector_for, field_of_move, after_moves, writes_of}
use Rattle.rail_law.specs.Way.{first_by, next_rail, next_value, next_step, steps, after_steps, way, path}
use Rattle.rail_law.proofs.Registers.{pair_at, chain_at}

abbrev falling : ℕ → ℕ → Bool
falling a b = ltb b a

first_of_equals : first_by ltb (λ n. n * 0) (7 ∷ 5 ∷ []) ≡ Some 7
first_of_equals = refl

lowest_first : first_by ltb (λ n. n) (7 ∷ 5 ∷ 6 ∷ []) ≡ Some 5
lowest_first = refl

highest_first : first_by falling (λ n. n) (5 ∷ 7 ∷ 6 ∷ []) ≡ Some 7
highest_first = refl

first_of_none : first_by ltb (λ n. n) [] ≡ None
first_of_none = refl

neighbour_above : next_value ltb (30 ∷ 10 ∷ 20 ∷ 40 ∷ []) 20 ≡ Some 30
neighbour_above = refl

neighbour_below : next_value falling (30 ∷ 10 ∷ 20 ∷ 40 ∷ []) 30 ≡ Some 20
neighbour_below = refl

none_above : next_value ltb (30 ∷ 10 ∷ []) 30 ≡ None
none_above = refl

-- rails 1 and 2 are coupled, and come up before rails 0 and 3
abbrev three : Graph
three = record { supply = Some 2 ∷ None ∷ None ∷ None ∷ []; group = 0 ∷ 9 ∷ 9 ∷ 3 ∷ []; link = [] }

abbrev turns : List ℕ
turns = 1 ∷ 2 ∷ 0 ∷ 3 ∷ []

-- the block comes first, though rail 0 stands lower; in it the lower rail
block_first : next_rail ltb three turns (5 ∷ 5 ∷ 5 ∷ 5 ∷ []) (0 ∷ 3 ∷ 2 ∷ 0 ∷ []) ≡ Some 2
block_first = refl

least_of_equals : next_rail ltb three turns (5 ∷ 5 ∷ 5 ∷ 5 ∷ []) (0 ∷ 3 ∷ 3 ∷ 0 ∷ []) ≡ Some 1
least_of_equals = refl

-- a rail that has come is passed over, and so is a block all of whose rails have
come_already : next_rail ltb three turns (5 ∷ 5 ∷ 2 ∷ 5 ∷ []) (0 ∷ 3 ∷ 2 ∷ 0 ∷ []) ≡ Some 1
come_already = refl

past_block : next_rail ltb three turns (5 ∷ 5 ∷ 5 ∷ 5 ∷ []) (1 ∷ 5 ∷ 6 ∷ 0 ∷ []) ≡ Some 0
past_block = refl

all_come : next_rail ltb three turns (5 ∷ 5 ∷ 5 ∷ 5 ∷ []) (5 ∷ 5 ∷ 5 ∷ 6 ∷ []) ≡ None
all_come = refl

-- where rails fall, those above their goals, and the highest first
falls_first : next_rail falling three (3 ∷ 0 ∷ 2 ∷ 1 ∷ []) (0 ∷ 0 ∷ 0 ∷ 5 ∷ []) (0 ∷ 3 ∷ 4 ∷ 5 ∷ []) ≡ Some 2
falls_first = refl

-- no step where the rail has no value behind where it stands
no_value_no_step : next_step ltb three turns ([] ∷ (1 ∷ 2 ∷ []) ∷ [] ∷ [] ∷ []) (5 ∷ 5 ∷ 5 ∷ 5 ∷ []) (5 ∷ 2 ∷ 5 ∷ 5 ∷ []) ≡ None
no_value_no_step = refl

-- each of three values on the way, in turn; rail 3 rises too, and rail 0 falls last, since it has to go down
abbrev tens : List ℕ
tens = 30 ∷ 10 ∷ 20 ∷ 40 ∷ []

up_and_down : way three turns (tens ∷ tens ∷ tens ∷ tens ∷ []) (30 ∷ 10 ∷ 20 ∷ 10 ∷ []) (10 ∷ 30 ∷ 30 ∷ 20 ∷ [])
    ≡ (1, 20) ∷ (1, 30) ∷ (2, 30) ∷ (3, 20) ∷ (0, 20) ∷ (0, 10) ∷ []
up_and_down = refl

-- the other way round in falling: rail 3, rail 0, and then the pair, the highest first
down_in_turn : way three turns (tens ∷ tens ∷ tens ∷ tens ∷ []) (20 ∷ 30 ∷ 40 ∷ 20 ∷ []) (10 ∷ 20 ∷ 20 ∷ 10 ∷ [])
    ≡ (3, 10) ∷ (0, 10) ∷ (2, 30) ∷ (1, 20) ∷ (2, 20) ∷ []
down_in_turn = refl

-- as many steps at the most
two_at_most : steps ltb three turns (tens ∷ tens ∷ tens ∷ tens ∷ []) (40 ∷ 40 ∷ 40 ∷ 40 ∷ []) 2 (10 ∷ 10 ∷ 10 ∷ 10 ∷ []) ≡ (1, 20) ∷ (2, 20) ∷ []
two_at_most = refl

arrived : after_steps (30 ∷ 10 ∷ []) ((0, 40) ∷ (1, 20) ∷ (0, 10) ∷ []) ≡ 10 ∷ 20 ∷ []
arrived = refl

-- selectors: the first that gives a value
selector_of_value : selector_for io_rail 1900000 ≡ 19
unfolding values
selector_of_value = refl

selector_of_fixed : selector_for battery 5000000 ≡ 0
selector_of_fixed = refl

-- 7 µV at selectors 1 and 2, and 9 at none
abbrev repeating : Rail
repeating = record io_rail { desc = record io_rail.desc { table = Listed (5 ∷ 7 ∷ 7 ∷ []) }; limits = record io_rail.limits { bounds = None } }

first_selector : selector_for repeating 7 ≡ 1
first_selector = refl

no_selector : selector_for repeating 9 ≡ 0
no_selector = refl

field_of_selector : field_of_move supplied_board (record { rail = record { 0 = 0 }; part = Selector; bits = 3 }) ≡ Some (low_bits 0x12 0x1f)
field_of_selector = refl

no_rail_no_field : field_of_move supplied_board (record { rail = record { 0 = 3 }; part = Enable; bits = 1 }) ≡ None
no_rail_no_field = refl

-- a field that isn't there isn't written
nothing_written : after_moves supplied_board (chain_at 16 2 0 0) (record { rail = record { 0 = 1 }; part = ModePart; bits = 1 } ∷ record { rail = record { 0 = 3 }; part = Enable; bits = 1 } ∷ []) ≡ chain_at 16 2 0 0
nothing_written = refl

-- a selector's move of a rail
abbrev selects : ℕ → ℕ → Move
selects r bits = record { rail = record { 0 = r }; part = Selector; bits = bits }

abbrev pair_path : List Move
pair_path = path coupled_board (800000 ∷ 800000 ∷ []) (1000000 ∷ 900000 ∷ [])

-- 32 values of rail 0 and 16 of rail 1; they rise in turn, and rail 0 alone in the end
so_many_moves : length pair_path ≡ 48
unfolding values
so_many_moves = refl

first_moves : take 3 pair_path ≡ selects 0 33 ∷ selects 1 33 ∷ selects 0 34 ∷ []
unfolding values
first_moves = refl

last_move : drop 47 pair_path ≡ selects 0 64 ∷ []
unfolding values
last_move = refl

-- where a stop after one move and after two leaves them
after_one : standing_values coupled_board (after_moves coupled_board (pair_at 32 32) (take 1 pair_path)) ≡ 806250 ∷ 800000 ∷ []
unfolding values field_of byte_of with_field with_byte
after_one = refl

after_two : standing_values coupled_board (after_moves coupled_board (pair_at 32 32) (take 2 pair_path)) ≡ 806250 ∷ 806250 ∷ []
unfolding values field_of byte_of with_field with_byte
after_two = refl

-- the buck rises first, over the edge of its ranges, and then the ldo; down again the other way round
chain_up : path supplied_board (1300000 ∷ 1200000 ∷ 5000000 ∷ []) (1900000 ∷ 1800000 ∷ 5000000 ∷ [])
    ≡ selects 0 11 ∷ selects 0 12 ∷ selects 0 13 ∷ selects 0 14 ∷ selects 0 15 ∷ selects 0 16 ∷ selects 0 17 ∷ selects 0 18 ∷ selects 0 19 ∷ selects 1 1 ∷ selects 1 2 ∷ []
unfolding values
chain_up = refl

chain_down : path supplied_board (1700000 ∷ 1500000 ∷ 5000000 ∷ []) (1550000 ∷ 1200000 ∷ 5000000 ∷ []) ≡ selects 1 0 ∷ selects 0 16 ∷ selects 0 15 ∷ []
unfolding values
chain_down = refl

-- bits stand at the field's place, and a field that isn't there writes nothing
writes_of_chain : writes_of supplied_board (selects 1 2 ∷ record { rail = record { 0 = 0 }; part = ModePart; bits = 2 } ∷ selects 2 1 ∷ [])
    ≡ record { chip = 0; reg = 0x13; mask = 0x07; bits = 2 } ∷ record { chip = 0; reg = 0x30; mask = 0x30; bits = 0x20 } ∷ record { chip = 0; reg = 0; mask = 0; bits = 0 } ∷ []
writes_of_chain = refl
