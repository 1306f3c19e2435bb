-- What follows from the place of a rail in its chip, counted from 0, and from its kind.
use Rattle.std.specs.Prelude.{ℕ, ◌+◌, ◌*◌, ◌/◌, ◌%◌, ◌^◌, ◌<◌, List, [], ◌∷◌, Option, Some, None}
use Rattle.chip_regs.specs.Width.{register_width}
use Rattle.chip_regs.specs.declared.field.Field.{Field}
use Rattle.board.specs.declared.desc.Desc.{Desc}
use Rattle.pmic_tables.specs.declared.kind.Kind.{Kind}
use Rattle.pmic_tables.specs.declared.kind.Kind.TheVariants.{Buck, Ldo}
use Rattle.pmic_tables.specs.Sheet.{Line}

-- a field of a chip: its register, the bits of the field, and the place of the lowest of them
abbrev pub field : ℕ → ℕ → ℕ → ℕ → Field
field chip reg mask shift = record { chip = chip; reg = reg; mask = mask; shift = shift }

-- a bit for each rail, as many to a register as it has bits, from `first` on
abbrev pub bit : ℕ → ℕ → ℕ → Field
bit chip first k = field chip (first + k / register_width) (2 ^ (k % register_width)) (k % register_width)

-- the mode of a buck: two bits for each rail
abbrev pub modes_of : ℕ → ℕ → Kind → Option Field
modes_of chip k (Buck ramp) = Some (field chip 0x30 (3 * 2 ^ (2 * k)) (2 * k))
modes_of chip k (Ldo dropout) = None

-- the register of the modes has room for the first four rails
abbrev pub HasRoom : ℕ → Kind → Type 0
HasRoom k (Buck ramp) = k < 4
HasRoom k (Ldo dropout) = k < 16

-- the greatest load of each mode in µA, in the order fast, normal, idle, standby; an ldo has no modes, and 0
abbrev pub greatest_of : Kind → List ℕ
greatest_of (Buck ramp) = 3000000 ∷ 1000000 ∷ 50000 ∷ 5000 ∷ []
greatest_of (Ldo dropout) = 0 ∷ 0 ∷ 0 ∷ 0 ∷ []

-- the dropout in µV; a buck has none
abbrev pub dropout_of : Kind → ℕ
dropout_of (Buck ramp) = 0
dropout_of (Ldo dropout) = dropout

-- the ramp in µV/µs, which is 0 for an ldo
abbrev pub ramp_of : Kind → ℕ
ramp_of (Buck ramp) = ramp
ramp_of (Ldo dropout) = 0

-- how long the rail takes to come up, in µs
abbrev pub enable_time_of : Kind → ℕ
enable_time_of (Buck ramp) = 100
enable_time_of (Ldo dropout) = 50

-- the description of the rail at place k of a chip
abbrev pub desc_of : ℕ → ℕ → ℕ → Line → Desc
desc_of chip sleep k line = record {
  table = line.table;
  selector = Some (field chip line.register line.mask 0);
  enable = bit chip 0x20 k;
  modes = modes_of chip k line.kind;
  greatest = greatest_of line.kind;
  suspend_enable = Some (bit chip sleep k);
  suspend_selector = Some (field chip (0x40 + k) line.mask 0);
  dropout = dropout_of line.kind;
  ramp = ramp_of line.kind;
  enable_time = enable_time_of line.kind;
}
