-- The chip `example,pm8`.
use Rattle.std.specs.Prelude.{[], ◌∷◌, codes}
use Rattle.board.specs.declared.table.Table.{Table}
use Rattle.pmic_tables.specs.declared.kind.Kind.TheVariants.{Buck, Ldo}
use Rattle.pmic_tables.specs.Sheet.{Sheet, line, range, one_range}

-- 500000 + 10000·s
abbrev pub core : Table
core = one_range (range 500000 10000 0 127)

-- 800000 + 25000·s
abbrev pub memory : Table
memory = one_range (range 800000 25000 0 63)

-- 900000 + 100000·s
abbrev pub linear : Table
linear = one_range (range 900000 100000 0 31)

-- node, supply, values, register and mask of the selector, ramp or dropout
unfoldable pub pm8 : Sheet
pm8 = record {
  lines =
      line (codes "buck1") (codes "vin1") core 0x10 0x7f (Buck 10000)
      ∷ line (codes "buck2") (codes "vin2") core 0x11 0x7f (Buck 10000)
      ∷ line (codes "buck3") (codes "vin3") memory 0x12 0x3f (Buck 10000)
      ∷ line (codes "buck4") (codes "vin4") memory 0x13 0x3f (Buck 10000)
      ∷ line (codes "ldo1") (codes "vinl1") linear 0x14 0x1f (Ldo 150000)
      ∷ line (codes "ldo2") (codes "vinl1") linear 0x15 0x1f (Ldo 150000)
      ∷ line (codes "ldo3") (codes "vinl2") linear 0x16 0x1f (Ldo 150000)
      ∷ line (codes "ldo4") (codes "vinl2") linear 0x17 0x1f (Ldo 150000)
      ∷ [];
  resets = (0x30, 0x55) ∷ [];
  sleep = 0x21;
}
