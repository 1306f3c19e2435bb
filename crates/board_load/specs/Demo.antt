-- The built-in board: one chip with one rail.
use Rattle.std.specs.Prelude.{ℕ, ◌≡◌, true, false, List, [], ◌∷◌, codes, Some, None}
use Rattle.linear_range.specs.declared.linear_range.LinearRange.{LinearRange}
use Rattle.chip_regs.specs.declared.field.Field.{Field}
use Rattle.load_modes.specs.Modes.{bits_of}
use Rattle.board.specs.declared.board.Board.{Board}
use Rattle.board.specs.declared.constraints.Constraints.{Constraints}
use Rattle.board.specs.declared.desc.Desc.{Desc}
use Rattle.board.specs.declared.rail.Rail.{Rail}
use Rattle.board.specs.declared.table.Table.TheVariants.{Ranges}
use Rattle.board.specs.Lone.{lone_graph}
use Rattle.board_draft.specs.declared.drafted.Drafted.{Drafted}

-- the one range of `core`: 600000 µV and 6250 µV more for each selector up to 127
abbrev pub core_ranges : List LinearRange
core_ranges = record { min = 600000; min_sel = 0; max_sel = 127; step = 6250 } ∷ []

-- so many bits of a register of the one chip, from the bit 0 on
abbrev pub low_bits : ℕ → ℕ → Field
low_bits reg mask = record { chip = 0; reg = reg; mask = mask; shift = 0 }

-- how the chip makes `core`: its fields, its greatest loads in µA, and its times; it rises and
-- falls by 12500 µV in a µs and comes up in 100 µs
pub record IsCoreDesc (desc : Desc) : Type 0 where
  pub table : desc.table ≡ Ranges core_ranges
  pub selector : desc.selector ≡ Some (low_bits 0x10 0x7f)
  pub enable : desc.enable ≡ low_bits 0x20 0x01
  pub modes : desc.modes ≡ Some (low_bits 0x30 0x03)
  pub greatest : desc.greatest ≡ 3000000 ∷ 1000000 ∷ 50000 ∷ 5000 ∷ []
  pub suspend_enable : desc.suspend_enable ≡ Some (low_bits 0x21 0x01)
  pub suspend_selector : desc.suspend_selector ≡ Some (low_bits 0x40 0x7f)
  pub dropout : desc.dropout ≡ 0
  pub ramp : desc.ramp ≡ 12500
  pub enable_time : desc.enable_time ≡ 100

-- what is asked of `core`: 800000 to 1000000 µV, any mode, and nothing else
pub record IsCoreLimits (limits : Constraints) : Type 0 where
  pub bounds : limits.bounds ≡ Some (800000, 1000000)
  pub always_on : limits.always_on ≡ false
  pub boot_on : limits.boot_on ≡ false
  pub allow_load : limits.allow_load ≡ false
  pub system_load : limits.system_load ≡ 0
  pub times : limits.times ≡ record { ramp = 0; settle = 0; up = 0; down = 0 }
  pub enable_ramp : limits.enable_ramp ≡ 0
  pub modes : bits_of limits.allowed ≡ 15
  pub initial : limits.initial ≡ None
  pub max_step : limits.max_step ≡ 0
  pub sleeps : limits.sleeps ≡ None ∷ None ∷ None ∷ []

-- the rail `core`
pub record IsCore (rail : Rail) : Type 0 where
  pub name : rail.name.bytes ≡ codes "core"
  pub desc : IsCoreDesc rail.desc
  pub limits : IsCoreLimits rail.limits
  pub supply : rail.supply ≡ None
  pub group : rail.group ≡ 0
  pub changeable : rail.changeable ≡ true
  pub kept_uv : rail.kept_uv ≡ 800000

-- the board `demo`
pub record IsDemo (board : Board) : Type 0 where
  pub core : Rail
  pub rails : board.rails ≡ core ∷ []
  pub is_core : IsCore core
  pub spread : board.spread ≡ 0 ∷ []
  pub chips : board.chips ≡ 1
  pub graph : board.graph ≡ lone_graph
  pub order : board.order ≡ 0 ∷ []

-- the chip's registers that aren't 0 after a reset: both its first selectors are 32, and all modes normal
abbrev pub demo_resets : List (ℕ × ℕ × ℕ)
demo_resets = (0, 0x10, 0x20) ∷ (0, 0x11, 0x20) ∷ (0, 0x30, 0x15) ∷ []

-- the board `demo`, with its registers after a reset
pub record IsDemoDraft (drafted : Drafted) : Type 0 where
  pub board : IsDemo drafted.board
  pub resets : drafted.resets ≡ demo_resets
