-- The data sheets worked out by hand: their names, their rails and their values, for chips at more than one place of a board.
use Rattle.std.proofs.Common.{◌≡◌, ℕ, List, [], ◌∷◌, Option, Some, None, map, refl, length}
use Rattle.std.specs.Prelude.{codes, slice_get}
use Rattle.board.specs.declared.table.Table.{Table}
use Rattle.board.specs.Table.{uv_of}
use Rattle.pmic_tables.specs.ChipDesc.{rails_of}
use Rattle.pmic_tables.specs.Named.{sheet_named}
use Rattle.pmic_tables.specs.Pm4.{pm4, core as core4, io as io4, usb as usb4}
use Rattle.pmic_tables.specs.Pm8.{pm8, core as core8, memory as memory8, linear as linear8}
use Rattle.pmic_tables.specs.Pm12.{pm12, core as core12, linear as linear12, various as various12}

first_chip : sheet_named (codes "example,pm4") ≡ Some pm4
first_chip = refl

second_chip : sheet_named (codes "example,pm8") ≡ Some pm8
second_chip = refl

third_chip : sheet_named (codes "example,pm12") ≡ Some pm12
third_chip = refl

-- the head of a name is none, nor is a longer one, or one without the maker
head_of_name : sheet_named (codes "example,pm1") ≡ None
head_of_name = refl

longer_name : sheet_named (codes "example,pm44") ≡ None
longer_name = refl

without_maker : sheet_named (codes "pm4") ≡ None
without_maker = refl

no_name : sheet_named [] ≡ None
no_name = refl

-- the values of some selectors of a table: the first, one between or two at an edge, the last, and the one behind it
abbrev values_at : Table → List ℕ → List (Option ℕ)
values_at table = map (uv_of table)

values_of_core4 : values_at core4 (0 ∷ 64 ∷ 127 ∷ 128 ∷ []) ≡ Some 600000 ∷ Some 1000000 ∷ Some 1393750 ∷ None ∷ []
values_of_core4 = refl

values_of_io4 : values_at io4 (0 ∷ 15 ∷ 16 ∷ 31 ∷ 32 ∷ []) ≡ Some 800000 ∷ Some 1550000 ∷ Some 1600000 ∷ Some 3100000 ∷ None ∷ []
values_of_io4 = refl

values_of_usb4 : values_at usb4 (0 ∷ 5 ∷ 7 ∷ 8 ∷ []) ≡ Some 1200000 ∷ Some 3000000 ∷ Some 3300000 ∷ None ∷ []
values_of_usb4 = refl

values_of_core8 : values_at core8 (0 ∷ 50 ∷ 127 ∷ 128 ∷ []) ≡ Some 500000 ∷ Some 1000000 ∷ Some 1770000 ∷ None ∷ []
values_of_core8 = refl

values_of_memory8 : values_at memory8 (0 ∷ 8 ∷ 63 ∷ 64 ∷ []) ≡ Some 800000 ∷ Some 1000000 ∷ Some 2375000 ∷ None ∷ []
values_of_memory8 = refl

values_of_linear8 : values_at linear8 (0 ∷ 1 ∷ 31 ∷ 32 ∷ []) ≡ Some 900000 ∷ Some 1000000 ∷ Some 4000000 ∷ None ∷ []
values_of_linear8 = refl

values_of_core12 : values_at core12 (0 ∷ 63 ∷ 64 ∷ 127 ∷ 128 ∷ []) ≡ Some 600000 ∷ Some 1387500 ∷ Some 1400000 ∷ Some 2975000 ∷ None ∷ []
values_of_core12 = refl

values_of_linear12 : values_at linear12 (0 ∷ 4 ∷ 63 ∷ 64 ∷ []) ≡ Some 800000 ∷ Some 1000000 ∷ Some 3950000 ∷ None ∷ []
values_of_linear12 = refl

values_of_various12 : values_at various12 (0 ∷ 5 ∷ 15 ∷ 16 ∷ []) ≡ Some 1000000 ∷ Some 1850000 ∷ Some 3300000 ∷ None ∷ []
values_of_various12 = refl

-- the third rail of an `example,pm4` that is the first chip of its board
buck_of_pm4 : slice_get (rails_of 0 pm4) 2 ≡ Some (record {
  node = codes "buck3";
  supply = codes "vin3";
  desc = record {
    table = io4;
    selector = Some (record { chip = 0; reg = 0x12; mask = 0x1f; shift = 0 });
    enable = record { chip = 0; reg = 0x20; mask = 0x04; shift = 2 };
    modes = Some (record { chip = 0; reg = 0x30; mask = 0x30; shift = 4 });
    greatest = 3000000 ∷ 1000000 ∷ 50000 ∷ 5000 ∷ [];
    suspend_enable = Some (record { chip = 0; reg = 0x21; mask = 0x04; shift = 2 });
    suspend_selector = Some (record { chip = 0; reg = 0x42; mask = 0x1f; shift = 0 });
    dropout = 0;
    ramp = 10000;
    enable_time = 100;
  };
})
unfolding pm4
buck_of_pm4 = refl

-- the last one of another that is the third
ldo_of_pm4 : slice_get (rails_of 2 pm4) 3 ≡ Some (record {
  node = codes "ldo1";
  supply = codes "vinl1";
  desc = record {
    table = usb4;
    selector = Some (record { chip = 2; reg = 0x13; mask = 0x07; shift = 0 });
    enable = record { chip = 2; reg = 0x20; mask = 0x08; shift = 3 };
    modes = None;
    greatest = 0 ∷ 0 ∷ 0 ∷ 0 ∷ [];
    suspend_enable = Some (record { chip = 2; reg = 0x21; mask = 0x08; shift = 3 });
    suspend_selector = Some (record { chip = 2; reg = 0x43; mask = 0x07; shift = 0 });
    dropout = 100000;
    ramp = 0;
    enable_time = 50;
  };
})
unfolding pm4
ldo_of_pm4 = refl

-- the fourth rail of an `example,pm8` that is the second chip
buck_of_pm8 : slice_get (rails_of 1 pm8) 3 ≡ Some (record {
  node = codes "buck4";
  supply = codes "vin4";
  desc = record {
    table = memory8;
    selector = Some (record { chip = 1; reg = 0x13; mask = 0x3f; shift = 0 });
    enable = record { chip = 1; reg = 0x20; mask = 0x08; shift = 3 };
    modes = Some (record { chip = 1; reg = 0x30; mask = 0xc0; shift = 6 });
    greatest = 3000000 ∷ 1000000 ∷ 50000 ∷ 5000 ∷ [];
    suspend_enable = Some (record { chip = 1; reg = 0x21; mask = 0x08; shift = 3 });
    suspend_selector = Some (record { chip = 1; reg = 0x43; mask = 0x3f; shift = 0 });
    dropout = 0;
    ramp = 10000;
    enable_time = 100;
  };
})
unfolding pm8
buck_of_pm8 = refl

-- its last one, the last in the registers of the first eight
ldo_of_pm8 : slice_get (rails_of 1 pm8) 7 ≡ Some (record {
  node = codes "ldo4";
  supply = codes "vinl2";
  desc = record {
    table = linear8;
    selector = Some (record { chip = 1; reg = 0x17; mask = 0x1f; shift = 0 });
    enable = record { chip = 1; reg = 0x20; mask = 0x80; shift = 7 };
    modes = None;
    greatest = 0 ∷ 0 ∷ 0 ∷ 0 ∷ [];
    suspend_enable = Some (record { chip = 1; reg = 0x21; mask = 0x80; shift = 7 });
    suspend_selector = Some (record { chip = 1; reg = 0x47; mask = 0x1f; shift = 0 });
    dropout = 150000;
    ramp = 0;
    enable_time = 50;
  };
})
unfolding pm8
ldo_of_pm8 = refl

-- the first rail of an `example,pm12` that is the third chip
buck_of_pm12 : slice_get (rails_of 2 pm12) 0 ≡ Some (record {
  node = codes "buck1";
  supply = codes "vin1";
  desc = record {
    table = core12;
    selector = Some (record { chip = 2; reg = 0x10; mask = 0x7f; shift = 0 });
    enable = record { chip = 2; reg = 0x20; mask = 0x01; shift = 0 };
    modes = Some (record { chip = 2; reg = 0x30; mask = 0x03; shift = 0 });
    greatest = 3000000 ∷ 1000000 ∷ 50000 ∷ 5000 ∷ [];
    suspend_enable = Some (record { chip = 2; reg = 0x22; mask = 0x01; shift = 0 });
    suspend_selector = Some (record { chip = 2; reg = 0x40; mask = 0x7f; shift = 0 });
    dropout = 0;
    ramp = 12500;
    enable_time = 100;
  };
})
unfolding pm12
buck_of_pm12 = refl

-- its ninth, the first in the next registers
ninth_of_pm12 : slice_get (rails_of 2 pm12) 8 ≡ Some (record {
  node = codes "ldo5";
  supply = codes "vinl2";
  desc = record {
    table = various12;
    selector = Some (record { chip = 2; reg = 0x18; mask = 0x0f; shift = 0 });
    enable = record { chip = 2; reg = 0x21; mask = 0x01; shift = 0 };
    modes = None;
    greatest = 0 ∷ 0 ∷ 0 ∷ 0 ∷ [];
    suspend_enable = Some (record { chip = 2; reg = 0x23; mask = 0x01; shift = 0 });
    suspend_selector = Some (record { chip = 2; reg = 0x48; mask = 0x0f; shift = 0 });
    dropout = 100000;
    ramp = 0;
    enable_time = 50;
  };
})
unfolding pm12
ninth_of_pm12 = refl

-- how many rails there are
rails_in_pm4 : length (rails_of 0 pm4) ≡ 4
unfolding pm4
rails_in_pm4 = refl

rails_in_pm8 : length (rails_of 1 pm8) ≡ 8
unfolding pm8
rails_in_pm8 = refl

rails_in_pm12 : length (rails_of 2 pm12) ≡ 12
unfolding pm12
rails_in_pm12 = refl

resets_of_pm4 : pm4.resets ≡ (0x10, 0x20) ∷ (0x11, 0x20) ∷ (0x30, 0x15) ∷ []
unfolding pm4
resets_of_pm4 = refl

resets_of_pm8 : pm8.resets ≡ (0x30, 0x55) ∷ []
unfolding pm8
resets_of_pm8 = refl

resets_of_pm12 : pm12.resets ≡ (0x30, 0x55) ∷ []
unfolding pm12
resets_of_pm12 = refl
