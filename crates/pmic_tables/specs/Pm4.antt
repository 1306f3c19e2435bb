-- The chip `example,pm4`.
use Rattle.std.specs.Prelude.{[], ◌∷◌, codes}
use Rattle.board.specs.declared.table.Table.{Table}
use Rattle.pmic_tables.specs.declared.kind.Kind.TheVariants.{Buck, Ldo}
use Rattle.pmic_tables.specs.Sheet.{Sheet, line, range, one_range, two_ranges, listed}

-- 600000 + 6250·s
abbrev pub core : Table
core = one_range (range 600000 6250 0 127)

-- 800000 + 50000·s, then 1600000 + 100000·(s - 16)
abbrev pub io : Table
io = two_ranges (range 800000 50000 0 15) (range 1600000 100000 16 31)

-- 1200000 to 3300000 at uneven steps
abbrev pub usb : Table
usb = listed (1200000 ∷ 1500000 ∷ 1800000 ∷ 2500000 ∷ 2800000 ∷ 3000000 ∷ 3200000 ∷ 3300000 ∷ [])

-- node, supply, values, register and mask of the selector, ramp or dropout
unfoldable pub pm4 : Sheet
pm4 = record {
  lines =
      line (codes "buck1") (codes "vin1") core 0x10 0x7f (Buck 12500)
      ∷ line (codes "buck2") (codes "vin2") core 0x11 0x7f (Buck 12500)
      ∷ line (codes "buck3") (codes "vin3") io 0x12 0x1f (Buck 10000)
      ∷ line (codes "ldo1") (codes "vinl1") usb 0x13 0x07 (Ldo 100000)
      ∷ [];
  resets = (0x10, 0x20) ∷ (0x11, 0x20) ∷ (0x30, 0x15) ∷ [];
  sleep = 0x21;
}
