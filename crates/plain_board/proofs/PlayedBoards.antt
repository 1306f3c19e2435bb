-- Boards on which scripts are played, and how they stand after the load.
use Rattle.std.specs.Prelude.{ℕ, Bool, true, false, List, [], ◌∷◌, Option, Some, None, codes, map}
use Rattle.board.specs.declared.board.Board.{Board}
use Rattle.board.specs.declared.rail.Rail.{Rail}
use Rattle.board.specs.declared.sleep.Sleep.{Sleep}
use Rattle.board.specs.declared.table.Table.TheVariants.{List as Listed}
use Rattle.board.specs.Lone.{lone_graph}
use Rattle.board.proofs.Boards.{buck, fixed, core_table, io_table, rail_of, within, first_buck, second_buck, usb_rail, battery, coupled_board, supplied_board}
use Rattle.plain_board.specs.declared.plain.Plain.{Plain}
use Rattle.plain_board.proofs.Played.{chip_with}

-- a board with these registers, on which nobody has done anything and no rail is held
abbrev pub untouched : Board → List (List ℕ) → Plain
untouched board regs = record {
  regs = regs;
  handles = [];
  holds = map (λ rail. false) board.rails;
  suspended = false;
  events = map (λ rail. []) board.rails;
}

-- a chip after its reset: the first two bucks at 800000 µV, all modes normal, and all off
abbrev pub reset_chip : List ℕ
reset_chip = chip_with ((0x10, 0x20) ∷ (0x11, 0x20) ∷ (0x30, 0x15) ∷ [])

-- one rail, at 800000 to 1000000 µV
abbrev pub core_rail : Rail
core_rail = rail_of (codes "core") (buck 0 core_table 0x7f) 800000 1000000 None 0

abbrev pub core_board : Board
core_board = record { rails = core_rail ∷ []; spread = 0 ∷ []; chips = 1; graph = lone_graph; order = 0 ∷ [] }

abbrev pub core_plain : Plain
core_plain = untouched core_board (reset_chip ∷ [])

-- the coupled bucks
abbrev pub pair_plain : Plain
pair_plain = untouched coupled_board (reset_chip ∷ [])

-- the coupled bucks, and one that isn't coupled and stands at 1300000 µV
abbrev pub trio_board : Board
trio_board = record {
  rails = first_buck ∷ second_buck ∷ rail_of (codes "buck3") (buck 2 io_table 0x1f) 1000000 3100000 None 1 ∷ [];
  spread = 100000 ∷ 0 ∷ [];
  chips = 1;
  graph = record { supply = None ∷ None ∷ None ∷ []; group = 0 ∷ 0 ∷ 1 ∷ []; link = false ∷ false ∷ false ∷ [] };
  order = 0 ∷ 1 ∷ 2 ∷ [];
}

abbrev pub trio_plain : Plain
trio_plain = untouched trio_board (chip_with ((0x10, 0x20) ∷ (0x11, 0x20) ∷ (0x12, 10) ∷ (0x30, 0x15) ∷ []) ∷ [])

-- the battery, the buck at 1300000 µV, and the ldo at 1200000 µV
abbrev pub chain_plain : Plain
chain_plain = untouched supplied_board (chip_with ((0x12, 10) ∷ (0x30, 0x15) ∷ []) ∷ chip_with [] ∷ [])

-- the same with a buck that is kept at 1500000 µV, so that the ldo isn't linked to it
abbrev pub lone_chain_board : Board
lone_chain_board = record supplied_board {
  rails = rail_of (codes "buck3") (record (buck 2 io_table 0x1f) { ramp = 10000 }) 1500000 1500000 (Some 2) 0 ∷ usb_rail ∷ battery ∷ [];
  graph = record { supply = Some 2 ∷ Some 0 ∷ None ∷ []; group = 0 ∷ 1 ∷ 2 ∷ []; link = false ∷ false ∷ false ∷ [] };
}

abbrev pub lone_chain_plain : Plain
lone_chain_plain = untouched lone_chain_board (chip_with ((0x12, 14) ∷ (0x30, 0x15) ∷ []) ∷ chip_with [] ∷ [])

-- a buck whose mode its loads choose, of fast, normal and idle; 1000 µA no consumer tells, and it is idle
abbrev pub load_rail : Rail
load_rail = record (rail_of (codes "buck1") (buck 0 core_table 0x7f) 800000 1000000 None 0) {
  limits = record (within 800000 1000000) { allow_load = true; system_load = 1000; allowed = record { 0 = 7 } };
}

abbrev pub load_board : Board
load_board = record core_board { rails = load_rail ∷ [] }

abbrev pub load_plain : Plain
load_plain = untouched load_board (chip_with ((0x10, 0x20) ∷ (0x11, 0x20) ∷ (0x30, 0x16) ∷ []) ∷ [])

-- a battery, and two bucks that it supplies
abbrev pub fork_board : Board
fork_board = record {
  rails = rail_of (codes "vbat") (fixed 4200000) 4200000 4200000 None 0
      ∷ rail_of (codes "buck1") (buck 0 core_table 0x7f) 800000 1000000 (Some 0) 1
      ∷ rail_of (codes "buck2") (buck 1 core_table 0x7f) 800000 1000000 (Some 0) 2 ∷ [];
  spread = 0 ∷ 0 ∷ 0 ∷ [];
  chips = 2;
  graph = record { supply = None ∷ Some 0 ∷ Some 0 ∷ []; group = 0 ∷ 1 ∷ 2 ∷ []; link = false ∷ false ∷ false ∷ [] };
  order = 0 ∷ 1 ∷ 2 ∷ [];
}

abbrev pub fork_plain : Plain
fork_plain = untouched fork_board (reset_chip ∷ chip_with [] ∷ [])

-- a rail with what it is to be while the board is suspended, in the order standby, mem, disk
abbrev pub with_sleeps : List (Option Sleep) → Rail → Rail
with_sleeps sleeps rail = record rail { limits = record rail.limits { sleeps = sleeps } }

abbrev pub sleep : Option Bool → Option ℕ → Option Sleep
sleep on uv = Some (record { on = on; uv = uv })

-- four rails with sleeps: one off, one on at 900000 µV, a battery without such fields, and one with a
-- value alone, the first of two selectors that give it
abbrev pub sleep_board : Board
sleep_board = record {
  rails = with_sleeps (sleep (Some true) (Some 850000) ∷ sleep (Some false) None ∷ None ∷ []) (rail_of (codes "buck1") (buck 0 core_table 0x7f) 800000 1000000 None 0)
      ∷ with_sleeps (None ∷ sleep (Some true) (Some 900000) ∷ None ∷ []) (rail_of (codes "buck2") (buck 1 core_table 0x7f) 800000 1000000 None 1)
      ∷ with_sleeps (None ∷ sleep (Some true) (Some 5000000) ∷ sleep (Some false) None ∷ []) (rail_of (codes "vbat") (fixed 5000000) 5000000 5000000 None 2)
      ∷ with_sleeps (None ∷ None ∷ sleep None (Some 1000000) ∷ []) (rail_of (codes "buck3") (buck 2 (Listed (900000 ∷ 1000000 ∷ 900000 ∷ 1000000 ∷ [])) 0x03) 900000 1000000 None 3) ∷ [];
  spread = 0 ∷ 0 ∷ 0 ∷ 0 ∷ [];
  chips = 2;
  graph = record { supply = None ∷ None ∷ None ∷ None ∷ []; group = 0 ∷ 1 ∷ 2 ∷ 3 ∷ []; link = false ∷ false ∷ false ∷ false ∷ [] };
  order = 0 ∷ 1 ∷ 2 ∷ 3 ∷ [];
}

-- the sleeps of the first rail and of the last are on, before anything is written
abbrev pub sleep_plain : Plain
sleep_plain = untouched sleep_board (chip_with ((0x10, 0x20) ∷ (0x11, 0x20) ∷ (0x21, 0x05) ∷ (0x30, 0x15) ∷ []) ∷ chip_with [] ∷ [])

-- the battery, the buck and the ldo on and held from the start
abbrev pub booted_plain : Plain
booted_plain = record chain_plain { regs = chip_with ((0x12, 10) ∷ (0x20, 0x0c) ∷ (0x30, 0x15) ∷ []) ∷ chip_with ((0, 1) ∷ []) ∷ []; holds = true ∷ true ∷ true ∷ [] }

-- the same battery and bucks, of which the first is always on
abbrev pub always_board : Board
always_board = record fork_board {
  rails = rail_of (codes "vbat") (fixed 4200000) 4200000 4200000 None 0
      ∷ record (rail_of (codes "buck1") (buck 0 core_table 0x7f) 800000 1000000 (Some 0) 1) { limits = record (within 800000 1000000) { always_on = true } }
      ∷ rail_of (codes "buck2") (buck 1 core_table 0x7f) 800000 1000000 (Some 0) 2 ∷ [];
}

abbrev pub always_plain : Plain
always_plain = record (untouched always_board (chip_with ((0x10, 0x20) ∷ (0x11, 0x20) ∷ (0x20, 3) ∷ (0x30, 0x15) ∷ []) ∷ chip_with ((0, 1) ∷ []) ∷ [])) { holds = false ∷ true ∷ true ∷ [] }
