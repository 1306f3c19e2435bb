-- Where rails start, worked out by hand.
use Rattle.std.specs.Prelude.{◌≡◌, ℕ, true, false, List, [], ◌∷◌, map, Some, None}
use Rattle.std.proofs.Common.{refl}
use Rattle.linear_range.specs.Values.{values}
use Rattle.chip_regs.specs.Registers.{byte_of, field_of}
use Rattle.load_modes.specs.declared.mode.Mode.TheVariants.{Fast, Idle}
use Rattle.load_modes.specs.Modes.{suffices, mode_of_load}
use Rattle.board.specs.declared.board.Board.{Board}
use Rattle.board.specs.declared.rail.Rail.{Rail}
use Rattle.board.proofs.Boards.{within, first_buck, io_rail, usb_rail, battery, low_rail, high_rail, coupled_board, supplied_board, gaping_board}
use Rattle.rail_law.specs.Ties.{Tie}
use Rattle.plain_board.proofs.Played.{chip_with}
use Rattle.plain_board.proofs.PlayedBoards.{reset_chip, load_rail, always_board}
use Rattle.board_load.specs.Start.{values_inside, loadable, greatest, floor, start_values, targets, choices_within, ties_within, lacks_vector, no_vector, is_asked_on, starts_on, start_mode}

-- the buck's selector and the chip's on bits, of two chips
abbrev found : ℕ → ℕ → List (List ℕ)
found selector on = chip_with ((0x12, selector) ∷ (0x20, on) ∷ (0x30, 0x15) ∷ []) ∷ chip_with [] ∷ []

-- the buck, of whose values five are within its bounds; and without bounds
abbrev narrow : Rail
narrow = record io_rail { limits = within 1000000 1200000 }

abbrev free : Rail
free = record io_rail { limits = record (within 0 0) { bounds = None } }

five_inside : values_inside io_rail (1000000, 1200000) ≡ 1000000 ∷ 1050000 ∷ 1100000 ∷ 1150000 ∷ 1200000 ∷ []
unfolding values
five_inside = refl

none_inside : values_inside io_rail (1010000, 1040000) ≡ []
unfolding values
none_inside = refl

-- whatever it is found at
five_loadable : loadable narrow (found 0 4) ≡ 1000000 ∷ 1050000 ∷ 1100000 ∷ 1150000 ∷ 1200000 ∷ []
unfolding values
five_loadable = refl

one_loadable : loadable free (found 3 0) ≡ 950000 ∷ []
unfolding byte_of field_of
one_loadable = refl

greatest_last : greatest (3 ∷ 4 ∷ 5 ∷ []) ≡ Some 5
greatest_last = refl

greatest_first : greatest (5 ∷ 3 ∷ 4 ∷ []) ≡ Some 5
greatest_first = refl

greatest_of_none : greatest [] ≡ None
greatest_of_none = refl

-- off it may be lowered to any value, on only to the next below where it is found
floor_off : floor narrow (found 6 0) ≡ 0
unfolding values byte_of field_of
floor_off = refl

floor_on : floor narrow (found 6 4) ≡ 1100000
unfolding values byte_of field_of
floor_on = refl

floor_above_all : floor narrow (found 10 4) ≡ 1200000
unfolding values byte_of field_of
floor_above_all = refl

floor_below_all : floor narrow (found 0 4) ≡ 0
unfolding values byte_of field_of
floor_below_all = refl

-- an ldo without a selector that stands at 2000000 µV, between two of its values
floor_between : floor (record usb_rail { desc = record usb_rail.desc { selector = None }; kept_uv = 2000000 }) (found 0 8) ≡ 1800000
unfolding values byte_of field_of
floor_between = refl

starts_anywhere : start_values narrow (found 6 0) ≡ 1000000 ∷ 1050000 ∷ 1100000 ∷ 1150000 ∷ 1200000 ∷ []
unfolding values byte_of field_of
starts_anywhere = refl

starts_no_lower : start_values narrow (found 6 4) ≡ 1100000 ∷ 1150000 ∷ 1200000 ∷ []
unfolding values byte_of field_of
starts_no_lower = refl

starts_above : start_values narrow (found 0 4) ≡ 1000000 ∷ 1050000 ∷ 1100000 ∷ 1150000 ∷ 1200000 ∷ []
unfolding values byte_of field_of
starts_above = refl

-- after a reset the buck stands at 800000 µV, below its bounds and what the ldo at 1200000 µV asks of it
chain_targets : targets supplied_board (reset_chip ∷ chip_with [] ∷ []) ≡ Some (1300000 ∷ 1200000 ∷ 5000000 ∷ [])
unfolding values byte_of field_of
chain_targets = refl

-- found on at 1700000 µV, it stays there
chain_stays : targets supplied_board (found 17 4) ≡ Some (1700000 ∷ 1200000 ∷ 5000000 ∷ [])
unfolding values byte_of field_of
chain_stays = refl

-- the ldo is found on at 1800000 µV
chain_follows : targets supplied_board (chip_with ((0x13, 2) ∷ (0x20, 8) ∷ []) ∷ chip_with [] ∷ []) ≡ Some (1900000 ∷ 1800000 ∷ 5000000 ∷ [])
unfolding values byte_of field_of
chain_follows = refl

-- the first buck is found on at 1000000 µV, and the second at 800000 µV has to come up to it
pair_targets : targets coupled_board (chip_with ((0x10, 64) ∷ (0x11, 32) ∷ (0x20, 3) ∷ []) ∷ []) ≡ Some (1000000 ∷ 900000 ∷ [])
unfolding values byte_of field_of
pair_targets = refl

-- 0 or 100 µV beside 30 or 130 µV, with a spread of 20 µV
abbrev apart_board : Board
apart_board = record gaping_board { spread = 20 ∷ [] }

abbrev blank : List (List ℕ)
blank = chip_with [] ∷ chip_with [] ∷ []

no_targets : targets apart_board blank ≡ None
unfolding byte_of field_of
no_targets = refl

first_of_pair : no_vector apart_board blank ≡ Some 0
unfolding byte_of field_of
first_of_pair = refl

some_vector : no_vector gaping_board blank ≡ None
unfolding byte_of field_of
some_vector = refl

-- behind a rail that moves alone
abbrev pair_behind : Board
pair_behind = record {
  rails = narrow ∷ low_rail ∷ high_rail ∷ [];
  spread = 0 ∷ 20 ∷ [];
  chips = 1;
  graph = record { supply = None ∷ None ∷ None ∷ []; group = 0 ∷ 1 ∷ 1 ∷ []; link = false ∷ false ∷ false ∷ [] };
  order = 0 ∷ 1 ∷ 2 ∷ [];
}

second_rail : no_vector pair_behind blank ≡ Some 1
unfolding values byte_of field_of
second_rail = refl

-- a supply moves without what hangs on it: the ldo asks for 1300000 µV, and the buck may have 1200000
abbrev low_chain : Board
low_chain = record supplied_board { rails = narrow ∷ usb_rail ∷ battery ∷ [] }

supply_lacks_none : lacks_vector low_chain blank 0 ≡ false
unfolding values byte_of field_of
supply_lacks_none = refl

ldo_lacks_one : lacks_vector low_chain blank 1 ≡ true
unfolding values byte_of field_of
ldo_lacks_one = refl

ldo_is_told : no_vector low_chain blank ≡ Some 1
unfolding values byte_of field_of
ldo_is_told = refl

one_choice : choices_within (1 ∷ []) gaping_board blank ≡ (0 ∷ []) ∷ (30 ∷ 130 ∷ []) ∷ []
unfolding byte_of field_of
one_choice = refl

both_choices : choices_within (1 ∷ 0 ∷ []) gaping_board blank ≡ (0 ∷ 100 ∷ []) ∷ (30 ∷ 130 ∷ []) ∷ []
unfolding byte_of field_of
both_choices = refl

abbrev tie : ℕ → ℕ → Tie
tie low high = record { low = low; rise = 0; high = high; fall = 20 }

ties_of_both : ties_within (0 ∷ 1 ∷ []) (tie 0 1 ∷ tie 1 2 ∷ tie 2 0 ∷ tie 1 0 ∷ []) ≡ tie 0 1 ∷ tie 1 0 ∷ []
ties_of_both = refl

-- a rail that is found on, always on, on from the start, and none of these
found_on : is_asked_on (found 0 4) io_rail ≡ true
unfolding byte_of field_of
found_on = refl

always_asked : is_asked_on (found 0 0) (record io_rail { limits = record io_rail.limits { always_on = true } }) ≡ true
unfolding byte_of field_of
always_asked = refl

boot_asked : is_asked_on (found 0 0) (record io_rail { limits = record io_rail.limits { boot_on = true } }) ≡ true
unfolding byte_of field_of
boot_asked = refl

not_asked : is_asked_on (found 0 8) io_rail ≡ false
unfolding byte_of field_of
not_asked = refl

-- the ldo is found on: so are the buck and the battery
all_start_on : map (starts_on supplied_board (found 0 8)) (0 ∷ 1 ∷ 2 ∷ []) ≡ true ∷ true ∷ true ∷ []
unfolding byte_of field_of
all_start_on = refl

-- the buck is: the ldo below it isn't
two_start_on : map (starts_on supplied_board (found 0 4)) (0 ∷ 1 ∷ 2 ∷ []) ≡ true ∷ false ∷ true ∷ []
unfolding byte_of field_of
two_start_on = refl

none_starts_on : map (starts_on supplied_board (found 0 0)) (0 ∷ 1 ∷ 2 ∷ []) ≡ false ∷ false ∷ false ∷ []
unfolding byte_of field_of
none_starts_on = refl

-- of two bucks on one battery one is always on
one_buck_starts_on : map (starts_on always_board blank) (0 ∷ 1 ∷ 2 ∷ []) ≡ true ∷ true ∷ false ∷ []
unfolding byte_of field_of
one_buck_starts_on = refl

-- loads choose the mode where they count, whatever the node asks for
mode_by_load : start_mode (record load_rail { limits = record load_rail.limits { initial = Some Fast } }) ≡ Some Idle
unfolding suffices mode_of_load
mode_by_load = refl

mode_by_node : start_mode (record first_buck { limits = record first_buck.limits { initial = Some Fast } }) ≡ Some Fast
mode_by_node = refl

no_mode : start_mode first_buck ≡ None
no_mode = refl
