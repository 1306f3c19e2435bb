-- What follows from the place and the kind of a rail, worked out by hand for chips at more than one place of a board.
use Rattle.std.proofs.Common.{◌≡◌, true, false, [], ◌∷◌, Some, None, refl, arith, length}
use Rattle.pmic_tables.specs.declared.kind.Kind.TheVariants.{Buck, Ldo}
use Rattle.pmic_tables.specs.declared.row.Row.{Row}
use Rattle.pmic_tables.specs.Rules.{field, bit, modes_of, HasRoom, greatest_of, dropout_of, ramp_of, enable_time_of}
use Rattle.pmic_tables.specs.Rows.{has_room, fits, all_fit}

whole_register : field 1 0x43 0xff 0 ≡ record { chip = 1; reg = 0x43; mask = 0xff; shift = 0 }
whole_register = refl

-- the on bits of the first rail, of the eighth, which is the last of its register, and of the ninth and the twelfth in the next one
first_bit : bit 0 0x20 0 ≡ record { chip = 0; reg = 0x20; mask = 0x01; shift = 0 }
first_bit = refl

eighth_bit : bit 1 0x20 7 ≡ record { chip = 1; reg = 0x20; mask = 0x80; shift = 7 }
eighth_bit = refl

ninth_bit : bit 2 0x20 8 ≡ record { chip = 2; reg = 0x21; mask = 0x01; shift = 0 }
ninth_bit = refl

twelfth_bit : bit 2 0x22 11 ≡ record { chip = 2; reg = 0x23; mask = 0x08; shift = 3 }
twelfth_bit = refl

first_modes : modes_of 0 0 (Buck 12500) ≡ Some (record { chip = 0; reg = 0x30; mask = 0x03; shift = 0 })
first_modes = refl

fourth_modes : modes_of 1 3 (Buck 10000) ≡ Some (record { chip = 1; reg = 0x30; mask = 0xc0; shift = 6 })
fourth_modes = refl

no_modes : modes_of 1 3 (Ldo 150000) ≡ None
no_modes = refl

room_for_fourth_buck : HasRoom 3 (Buck 12500)
room_for_fourth_buck = omega arith

no_room_for_fifth_buck : ¬ HasRoom 4 (Buck 12500)
no_room_for_fifth_buck room = absurd (omega arith)

room_for_last_ldo : HasRoom 15 (Ldo 100000)
room_for_last_ldo = omega arith

no_room_behind_last_ldo : ¬ HasRoom 16 (Ldo 100000)
no_room_behind_last_ldo room = absurd (omega arith)

loads_of_buck : greatest_of (Buck 12500) ≡ 3000000 ∷ 1000000 ∷ 50000 ∷ 5000 ∷ []
loads_of_buck = refl

loads_of_ldo : greatest_of (Ldo 100000) ≡ 0 ∷ 0 ∷ 0 ∷ 0 ∷ []
loads_of_ldo = refl

dropout_of_buck : dropout_of (Buck 12500) ≡ 0
dropout_of_buck = refl

dropout_of_ldo : dropout_of (Ldo 150000) ≡ 150000
dropout_of_ldo = refl

ramp_of_buck : ramp_of (Buck 10000) ≡ 10000
ramp_of_buck = refl

ramp_of_ldo : ramp_of (Ldo 150000) ≡ 0
ramp_of_ldo = refl

time_of_buck : enable_time_of (Buck 12500) ≡ 100
time_of_buck = refl

time_of_ldo : enable_time_of (Ldo 100000) ≡ 50
time_of_ldo = refl

-- the same of the test for room
tested_fourth : has_room 3 (Buck 12500) ≡ true
tested_fourth = refl

tested_fifth : has_room 4 (Buck 12500) ≡ false
tested_fifth = refl

tested_last : has_room 15 (Ldo 100000) ≡ true
tested_last = refl

tested_behind : has_room 16 (Ldo 100000) ≡ false
tested_behind = refl

-- names of 64 bytes fit, and longer ones don't
module _ (row : Row) (kind : row.5 ≡ Buck 12500) where
  both_fit : length row.0.now ≡ 64 → length row.1.now ≡ 64 → fits 3 row ≡ true
  both_fit node supply = rw (kind, node, supply) refl

  too_far : fits 4 row ≡ false
  too_far = rw kind refl

  long_node : length row.0.now ≡ 65 → fits 3 row ≡ false
  long_node node = rw (kind, node) refl

  long_supply : length row.0.now ≡ 64 → length row.1.now ≡ 65 → fits 3 row ≡ false
  long_supply node supply = rw (kind, node, supply) refl

  -- the rows stand one behind another
  last_place : length row.0.now ≡ 64 → length row.1.now ≡ 64 → all_fit 2 (row ∷ row ∷ []) ≡ true
  last_place node supply = rw (kind, node, supply) refl

  second_too_far : length row.0.now ≡ 64 → length row.1.now ≡ 64 → all_fit 3 (row ∷ row ∷ []) ≡ false
  second_too_far node supply = rw (kind, node, supply) refl
