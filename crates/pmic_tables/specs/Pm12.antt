-- The chip `example,pm12`.
use Rattle.std.specs.Prelude.{[], ◌∷◌, codes}
use Rattle.board.specs.declared.table.Table.{Table}
use Rattle.pmic_tables.specs.declared.kind.Kind.TheVariants.{Buck, Ldo}
use Rattle.pmic_tables.specs.Sheet.{Sheet, line, range, one_range, two_ranges, listed}

-- 600000 + 12500·s, then 1400000 + 25000·(s - 64)
abbrev pub core : Table
core = two_ranges (range 600000 12500 0 63) (range 1400000 25000 64 127)

-- 800000 + 50000·s
abbrev pub linear : Table
linear = one_range (range 800000 50000 0 63)

-- 1000000 to 3300000 at uneven steps
abbrev pub various : Table
various = listed
    (1000000 ∷ 1100000 ∷ 1200000 ∷ 1500000 ∷ 1800000 ∷ 1850000 ∷ 2000000 ∷ 2500000
    ∷ 2600000 ∷ 2700000 ∷ 2800000 ∷ 2900000 ∷ 3000000 ∷ 3100000 ∷ 3200000 ∷ 3300000 ∷ [])

-- node, supply, values, register and mask of the selector, ramp or dropout
unfoldable pub pm12 : Sheet
pm12 = record {
  lines =
      line (codes "buck1") (codes "vin1") core 0x10 0x7f (Buck 12500)
      ∷ line (codes "buck2") (codes "vin2") core 0x11 0x7f (Buck 12500)
      ∷ line (codes "buck3") (codes "vin3") core 0x12 0x7f (Buck 12500)
      ∷ line (codes "buck4") (codes "vin4") core 0x13 0x7f (Buck 12500)
      ∷ line (codes "ldo1") (codes "vinl1") linear 0x14 0x3f (Ldo 100000)
      ∷ line (codes "ldo2") (codes "vinl1") linear 0x15 0x3f (Ldo 100000)
      ∷ line (codes "ldo3") (codes "vinl1") linear 0x16 0x3f (Ldo 100000)
      ∷ line (codes "ldo4") (codes "vinl1") linear 0x17 0x3f (Ldo 100000)
      ∷ line (codes "ldo5") (codes "vinl2") various 0x18 0x0f (Ldo 100000)
      ∷ line (codes "ldo6") (codes "vinl2") various 0x19 0x0f (Ldo 100000)
      ∷ line (codes "ldo7") (codes "vinl2") various 0x1a 0x0f (Ldo 100000)
      ∷ line (codes "ldo8") (codes "vinl2") various 0x1b 0x0f (Ldo 100000)
      ∷ [];
  resets = (0x30, 0x55) ∷ [];
  sleep = 0x22;
}
