-- What loading writes, worked out by hand.
use Rattle.std.specs.Prelude.{◌≡◌, ℕ, true, false, List, [], ◌∷◌, map, Option, Some, None, codes}
use Rattle.std.specs.Option.{option_map}
use Rattle.std.proofs.Common.{refl}
use Rattle.linear_range.specs.Values.{values}
use Rattle.chip_regs.specs.Registers.{byte_of, with_byte, with_field, field_of}
use Rattle.load_modes.specs.declared.mode.Mode.TheVariants.{Fast, Normal}
use Rattle.load_modes.specs.Modes.{suffices, mode_of_load}
use Rattle.board.specs.declared.board.Board.{Board}
use Rattle.board.specs.declared.part.Part.{Part}
use Rattle.board.specs.declared.part.Part.TheVariants.{Selector, ModePart, Enable}
use Rattle.board.specs.declared.rail.Rail.{Rail}
use Rattle.board.specs.declared.table.Table.TheVariants.{List as Listed}
use Rattle.board.specs.declared.write.Write.{Write}
use Rattle.board.proofs.Boards.{within, buck, rail_of, io_rail, usb_rail, battery, supplied_board, gaping_board}
use Rattle.rail_law.specs.Moves.{Move}
use Rattle.plain_board.proofs.Played.{chip_with}
use Rattle.plain_board.proofs.PlayedBoards.{reset_chip, core_rail, core_board, load_board}
use Rattle.board_load.specs.declared.loaded.Loaded.{Loaded}
use Rattle.board_load.specs.Writes.{selector_moves, value_and_mode, on_moves, loading_moves}
use Rattle.board_load.specs.Loading.{load, HasValueInside}

abbrev move : ℕ → Part → ℕ → Move
move r part bits = record { rail = record { 0 = r }; part = part; bits = bits }

abbrev update : ℕ → ℕ → ℕ → ℕ → Write
update chip reg mask bits = record { chip = chip; reg = reg; mask = mask; bits = bits }

-- a buck of whose four selectors two give each value
abbrev double_rail : Rail
double_rail = rail_of (codes "buck3") (buck 2 (Listed (900000 ∷ 1000000 ∷ 900000 ∷ 1000000 ∷ [])) 0x03) 900000 1000000 None 0

abbrev double_at : ℕ → List (List ℕ)
double_at selector = chip_with ((0x12, selector) ∷ []) ∷ []

-- what stands at its value already isn't written, by whichever selector
stands_already : selector_moves (double_at 3) 1000000 5 double_rail ≡ []
unfolding byte_of field_of
stands_already = refl

-- and else the first selector is taken
first_selector : selector_moves (double_at 2) 1000000 5 double_rail ≡ move 5 Selector 1 ∷ []
unfolding byte_of field_of
first_selector = refl

lowest_selector : selector_moves (double_at 3) 900000 5 double_rail ≡ move 5 Selector 0 ∷ []
unfolding byte_of field_of
lowest_selector = refl

-- the buck asks for the mode fast, and the ldo is on from the start
abbrev chain : Board
chain = record supplied_board {
  rails = record io_rail { limits = record io_rail.limits { initial = Some Fast } } ∷ record usb_rail { limits = record usb_rail.limits { boot_on = true } } ∷ battery ∷ [];
}

abbrev reset : List (List ℕ)
reset = reset_chip ∷ chip_with [] ∷ []

abbrev chain_values : List ℕ
chain_values = 1300000 ∷ 1200000 ∷ 5000000 ∷ []

value_then_mode : value_and_mode chain reset chain_values 0 ≡ move 0 Selector 10 ∷ move 0 ModePart 0 ∷ []
unfolding values byte_of field_of
value_then_mode = refl

-- an ldo has no modes, and stands at its value
neither : value_and_mode chain reset chain_values 1 ≡ []
unfolding values byte_of field_of
neither = refl

no_such_rail : value_and_mode chain reset chain_values 3 ≡ []
no_such_rail = refl

-- a mode that the rail is in isn't written
mode_already : value_and_mode (record chain { rails = record io_rail { limits = record io_rail.limits { initial = Some Normal } } ∷ [] }) reset (800000 ∷ []) 0 ≡ []
unfolding values byte_of field_of
mode_already = refl

-- the battery is on already, and the buck goes on for the ldo
battery_is_on : on_moves chain (reset_chip ∷ chip_with ((0, 1) ∷ []) ∷ []) 2 ≡ []
unfolding byte_of field_of
battery_is_on = refl

buck_goes_on : on_moves chain reset 0 ≡ move 0 Enable 1 ∷ []
unfolding byte_of field_of
buck_goes_on = refl

stays_off : on_moves supplied_board reset 0 ≡ []
unfolding byte_of field_of
stays_off = refl

-- the battery, the buck and the ldo come up in this order: first the values and modes of all, then the on bits
in_order : loading_moves chain reset chain_values ≡ move 0 Selector 10 ∷ move 0 ModePart 0 ∷ move 2 Enable 1 ∷ move 0 Enable 1 ∷ move 1 Enable 1 ∷ []
unfolding values byte_of field_of
in_order = refl

abbrev chain_loaded : Option Loaded
chain_loaded = load chain reset

chain_writes : option_map (λ loaded. loaded.writes) chain_loaded
    ≡ Some (update 0 0x12 0x1f 10 ∷ update 0 0x30 0x30 0 ∷ update 1 0 1 1 ∷ update 0 0x20 4 4 ∷ update 0 0x20 8 8 ∷ [])
unfolding values byte_of field_of
chain_writes = refl

-- after them only the rail that asked for it is held
chain_plain : option_map (λ loaded. loaded.plain) chain_loaded ≡ Some (record {
  regs = chip_with ((0x10, 0x20) ∷ (0x11, 0x20) ∷ (0x12, 10) ∷ (0x20, 0x0c) ∷ (0x30, 0x05) ∷ []) ∷ chip_with ((0, 1) ∷ []) ∷ [];
  handles = [];
  holds = false ∷ true ∷ false ∷ [];
  suspended = false;
  events = [] ∷ [] ∷ [] ∷ [];
})
unfolding values byte_of with_byte with_field field_of
chain_plain = refl

chain_kept : option_map (λ loaded. map (λ (rail : Rail). rail.kept_uv) loaded.board.rails) chain_loaded ≡ Some (1300000 ∷ 1200000 ∷ 5000000 ∷ [])
unfolding values byte_of field_of
chain_kept = refl

-- nothing else of the board changes
chain_else : option_map (λ loaded. record loaded.board { rails = [] }) chain_loaded ≡ Some (record chain { rails = [] })
unfolding values byte_of field_of
chain_else = refl

-- without that only the buck's selector is written
one_write : option_map (λ loaded. loaded.writes) (load supplied_board reset) ≡ Some (update 0 0x12 0x1f 10 ∷ [])
unfolding values byte_of field_of
one_write = refl

-- one rail at its least value after a reset: nothing is written
abbrev core_loaded : Loaded
core_loaded = record {
  board = record core_board { rails = record core_rail { kept_uv = 800000 } ∷ [] };
  writes = [];
  plain = record { regs = reset_chip ∷ []; handles = []; holds = false ∷ []; suspended = false; events = [] ∷ [] };
}

core_is_loaded : load core_board (reset_chip ∷ []) ≡ Some core_loaded
unfolding values byte_of field_of
core_is_loaded = refl

-- its loads choose the mode: 1000 µA carries the mode idle
load_mode : option_map (λ loaded. loaded.writes) (load load_board (reset_chip ∷ [])) ≡ Some (update 0 0x30 3 2 ∷ [])
unfolding values byte_of field_of suffices mode_of_load
load_mode = refl

not_loaded : load (record gaping_board { spread = 20 ∷ [] }) (chip_with [] ∷ []) ≡ None
unfolding byte_of field_of
not_loaded = refl

-- a rail without bounds needs no value within them
has_value : HasValueInside usb_rail
has_value none = cc

has_no_bounds : HasValueInside (record usb_rail { limits = record usb_rail.limits { bounds = None } })
has_no_bounds = tt

has_none : ¬ HasValueInside (record usb_rail { limits = within 1300000 1400000 })
has_none has = has refl
