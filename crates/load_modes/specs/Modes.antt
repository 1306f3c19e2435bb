use Rattle.std.specs.Prelude.{ℕ, Bool, true, ◌≡◌, ◌≤◌, ◌==◌, ◌&&◌, nat_le, List, [], ◌∷◌, Option, find, slice_index, bit_and}
use Rattle.load_modes.specs.declared.mode.Mode.{Mode}
use Rattle.load_modes.specs.declared.mode.Mode.TheVariants.{Fast, Normal, Idle, Standby}
use Rattle.load_modes.specs.declared.modes.Modes.{Modes}

-- the bit of a mode in a set of modes
abbrev pub bit_of : Mode → ℕ
bit_of Fast = 1
bit_of Normal = 2
bit_of Idle = 4
bit_of Standby = 8

-- the greatest load of a mode, of four that stand in the order of the modes
abbrev pub greatest_of : List ℕ → Mode → ℕ
greatest_of loads Fast = slice_index loads 0
greatest_of loads Normal = slice_index loads 1
greatest_of loads Idle = slice_index loads 2
greatest_of loads Standby = slice_index loads 3

-- the bits of the modes in a set
abbrev pub bits_of : Modes → ℕ
bits_of modes = modes.0

-- whether a mode is in a set
abbrev pub allows : Modes → Mode → Bool
allows allowed mode = bit_and (bits_of allowed) (bit_of mode) == bit_of mode

-- whether a mode is allowed and carries the sum of the loads
unfoldable pub suffices : List ℕ → Modes → ℕ → Mode → Bool
suffices loads allowed sum mode = allows allowed mode && nat_le sum (greatest_of loads mode)

-- the first of standby, idle, normal and fast that suffices
unfoldable pub mode_of_load : List ℕ → Modes → ℕ → Option Mode
mode_of_load loads allowed sum = find (suffices loads allowed sum) (Standby ∷ Idle ∷ Normal ∷ Fast ∷ [])

-- how the modes compare by the power that they take
abbrev pub power_of : Mode → ℕ
power_of Standby = 0
power_of Idle = 1
power_of Normal = 2
power_of Fast = 3

-- the mode suffices, and every mode that does takes at least its power
pub record IsLowest (loads : List ℕ) (allowed : Modes) (sum : ℕ) (mode : Mode) : Type 0 where
  pub enough : suffices loads allowed sum mode ≡ true
  pub least : (other : Mode) → suffices loads allowed sum other ≡ true → power_of mode ≤ power_of other
