-- Rails and boards worked out by hand.
use Rattle.std.specs.Prelude.{ℕ, ◌+◌, ◌*◌, ◌^◌, true, false, List, [], ◌∷◌, Option, Some, None, option_map, codes}
use Rattle.chip_regs.specs.declared.field.Field.{Field}
use Rattle.board.specs.declared.board.Board.{Board}
use Rattle.board.specs.declared.constraints.Constraints.{Constraints}
use Rattle.board.specs.declared.desc.Desc.{Desc}
use Rattle.board.specs.declared.rail.Rail.{Rail}
use Rattle.board.specs.declared.table.Table.{Table}
use Rattle.board.specs.declared.table.Table.TheVariants.{Ranges, List as Listed}
use Rattle.board.specs.Valid.{is_span}
use Rattle.board.proofs.Exact.{range}

-- a field of chip 0 from bit 0 on, and a bit
abbrev pub low_bits : ℕ → ℕ → Field
low_bits reg mask = record { chip = 0; reg = reg; mask = mask; shift = 0 }

abbrev pub bit : ℕ → ℕ → Field
bit reg k = record { chip = 0; reg = reg; mask = 2 ^ k; shift = k }

-- 600000 µV and 6250 µV more for each selector up to 127
abbrev pub core_table : Table
core_table = Ranges (range 600000 6250 0 127 ∷ [])

-- 800000 + 50000·s, then 1600000 + 100000·(s - 16)
abbrev pub io_table : Table
io_table = Ranges (range 800000 50000 0 15 ∷ range 1600000 100000 16 31 ∷ [])

abbrev pub usb_table : Table
usb_table = Listed (1200000 ∷ 1500000 ∷ 1800000 ∷ 2500000 ∷ 2800000 ∷ 3000000 ∷ 3200000 ∷ 3300000 ∷ [])

-- the k-th rail of a chip with modes and no dropout, and one with a dropout and no modes
abbrev pub buck : ℕ → Table → ℕ → Desc
buck k table mask = record {
  table = table;
  selector = Some (low_bits (0x10 + k) mask);
  enable = bit 0x20 k;
  modes = Some (record { chip = 0; reg = 0x30; mask = 3 * 2 ^ (2 * k); shift = 2 * k });
  greatest = 3000000 ∷ 1000000 ∷ 50000 ∷ 5000 ∷ [];
  suspend_enable = Some (bit 0x21 k);
  suspend_selector = Some (low_bits (0x40 + k) mask);
  dropout = 0;
  ramp = 12500;
  enable_time = 100;
}

abbrev pub ldo : ℕ → Table → ℕ → Desc
ldo k table mask = record (buck k table mask) { modes = None; greatest = 0 ∷ 0 ∷ 0 ∷ 0 ∷ []; dropout = 100000; ramp = 0; enable_time = 50 }

-- a rail of one value with an on bit alone, in the chip 1
abbrev pub fixed : ℕ → Desc
fixed uv = record {
  table = Listed (uv ∷ []);
  selector = None;
  enable = record { chip = 1; reg = 0; mask = 1; shift = 0 };
  modes = None;
  greatest = 0 ∷ 0 ∷ 0 ∷ 0 ∷ [];
  suspend_enable = None;
  suspend_selector = None;
  dropout = 0;
  ramp = 0;
  enable_time = 0;
}

-- what is asked of a rail: its bounds, and else nothing
abbrev pub within : ℕ → ℕ → Constraints
within low high = record {
  bounds = Some (low, high);
  always_on = false;
  boot_on = false;
  allow_load = false;
  system_load = 0;
  times = record { ramp = 0; settle = 0; up = 0; down = 0 };
  enable_ramp = 0;
  allowed = record { 0 = 15 };
  initial = None;
  max_step = 0;
  sleeps = None ∷ None ∷ None ∷ [];
}

-- a rail by its name, its description, its bounds, its supply and its group
abbrev pub rail_of : List ℕ → Desc → ℕ → ℕ → Option ℕ → ℕ → Rail
rail_of name desc low high supply group = record {
  name = record { bytes = name; spare = [] };
  desc = desc;
  limits = within low high;
  supply = option_map (λ s. record { 0 = s }) supply;
  group = group;
  changeable = is_span (Some (low, high));
  kept_uv = high;
}

-- two bucks that are coupled with a spread of 100000 µV
abbrev pub first_buck : Rail
first_buck = rail_of (codes "buck1") (buck 0 core_table 0x7f) 800000 1000000 None 0

abbrev pub second_buck : Rail
second_buck = rail_of (codes "buck2") (buck 1 core_table 0x7f) 800000 1000000 None 0

abbrev pub coupled_board : Board
coupled_board = record {
  rails = first_buck ∷ second_buck ∷ [];
  spread = 100000 ∷ [];
  chips = 1;
  graph = record { supply = None ∷ None ∷ []; group = 0 ∷ 0 ∷ []; link = false ∷ false ∷ [] };
  order = 0 ∷ 1 ∷ [];
}

-- a buck, an ldo that has its supply in it, and a fixed rail that is the buck's supply
abbrev pub io_rail : Rail
io_rail = rail_of (codes "buck3") (record (buck 2 io_table 0x1f) { ramp = 10000 }) 1000000 3100000 (Some 2) 0

abbrev pub usb_rail : Rail
usb_rail = rail_of (codes "ldo1") (ldo 3 usb_table 0x07) 1200000 3300000 (Some 0) 1

abbrev pub battery : Rail
battery = rail_of (codes "vbat") (fixed 5000000) 5000000 5000000 None 2

abbrev pub supplied_board : Board
supplied_board = record {
  rails = io_rail ∷ usb_rail ∷ battery ∷ [];
  spread = 0 ∷ 0 ∷ 0 ∷ [];
  chips = 2;
  graph = record { supply = Some 2 ∷ Some 0 ∷ None ∷ []; group = 0 ∷ 1 ∷ 2 ∷ []; link = false ∷ true ∷ false ∷ [] };
  order = 2 ∷ 0 ∷ 1 ∷ [];
}

-- a rail at 0 or 100 µV, and one at 30 or 130 µV, coupled with a spread of 40 µV
abbrev pub low_rail : Rail
low_rail = rail_of (codes "a") (buck 0 (Listed (0 ∷ 100 ∷ [])) 0x01) 0 100 None 0

abbrev pub high_rail : Rail
high_rail = rail_of (codes "b") (buck 1 (Listed (30 ∷ 130 ∷ [])) 0x01) 30 130 None 0

abbrev pub gaping_board : Board
gaping_board = record coupled_board { rails = low_rail ∷ high_rail ∷ []; spread = 40 ∷ [] }
