-- Descriptions of chips worked out by hand: which are those of a data sheet, and which are sound.
use Rattle.std.proofs.Common.{◌≡◌, ℕ, List, [], ◌∷◌, ◌++◌, Some, map, refl, ap, arith, length}
use Rattle.std.specs.Prelude.{IfSome, codes}
use Rattle.std.proofs.lemmas.List.Elements.{All-from_recursion}
use Rattle.chip_regs.specs.declared.field.Field.{Field}
use Rattle.board_graph.proofs.FailsBy.{FailsBy}
use Rattle.board.specs.declared.desc.Desc.{Desc}
use Rattle.board.specs.declared.part.Part.{Part}
use Rattle.board.specs.declared.part.Part.TheVariants.{Selector, Enable, ModePart, SuspendEnable, SuspendSelector}
use Rattle.board.specs.Desc.{described_field, HoldsSelectors, HasBits, IsPlaced, ArePlaced}
use Rattle.board.proofs.Apart.{none_clash}
use Rattle.pmic_tables.specs.declared.kind.Kind.TheVariants.{Buck, Ldo}
use Rattle.pmic_tables.specs.declared.chip_desc.ChipDesc.{ChipDesc}
use Rattle.pmic_tables.specs.declared.chip_desc.ChipRail.{ChipRail}
use Rattle.pmic_tables.specs.Sheet.{Line, Sheet, line}
use Rattle.pmic_tables.specs.Pm8.{core, linear}
use Rattle.pmic_tables.specs.Rules.{desc_of}
use Rattle.pmic_tables.specs.ChipDesc.{SeenRail, seen, rails_of, IsDescribed}
use Rattle.pmic_tables.specs.Sound.{fields_of, IsSoundOn, AreSound, AreApart}
use Rattle.pmic_tables.proofs.Chips.{core8_fills, linear8_fills}
use Rattle.pmic_tables.proofs.SoundLine.{lines_sound}

-- a sheet of a buck and an ldo
abbrev buck_line : Line
buck_line = line (codes "buck1") (codes "vin1") core 0x10 0x7f (Buck 10000)

abbrev ldo_line : Line
ldo_line = line (codes "ldo1") (codes "vinl1") linear 0x14 0x1f (Ldo 150000)

abbrev sheet : Sheet
sheet = record { lines = buck_line ∷ ldo_line ∷ []; resets = (0x30, 0x55) ∷ []; sleep = 0x21 }

-- a rail of a description, with whatever stands behind its names
abbrev rail : List ℕ → List ℕ → Desc → ChipRail
rail node supply desc = record { node = record { bytes = node; spare = 7 ∷ [] }; supply = record { bytes = supply; spare = [] }; desc = desc }

abbrev buck : ChipRail
buck = rail (codes "buck1") (codes "vin1") (desc_of 1 0x21 0 buck_line)

abbrev ldo : ChipRail
ldo = rail (codes "ldo1") (codes "vinl1") (desc_of 1 0x21 1 ldo_line)

abbrev chip : List ChipRail → List (ℕ × ℕ) → ChipDesc
chip rails resets = record { rails = rails; resets = resets }

-- on the second chip of a board
described : IsDescribed 1 sheet (chip (buck ∷ ldo ∷ []) ((0x30, 0x55) ∷ []))
described = record { rails = refl; resets = refl }

without_resets : FailsBy (◌≡◌ {A = List (ℕ × ℕ)} [] ((0x30, 0x55) ∷ [])) (IsDescribed 1 sheet (chip (buck ∷ ldo ∷ []) []))
without_resets = record {
  needs = λ is. is.resets;
  suffices = λ same. record { rails = refl; resets = same };
  fails = λ same. absurd (cc);
}

without_last : FailsBy (map seen (buck ∷ []) ≡ rails_of 1 sheet) (IsDescribed 1 sheet (chip (buck ∷ []) ((0x30, 0x55) ∷ [])))
without_last = record {
  needs = λ is. is.rails;
  suffices = λ same. record { rails = same; resets = refl };
  fails = λ same. let count : 1 ≡ 2 = ap length same in absurd (omega (arith, count));
}

-- the chips of the rails' on bits
abbrev chips_of : List SeenRail → List ℕ
chips_of = map (λ rail. rail.desc.enable.chip)

on_another_chip : FailsBy (map seen (buck ∷ ldo ∷ []) ≡ rails_of 0 sheet) (IsDescribed 0 sheet (chip (buck ∷ ldo ∷ []) ((0x30, 0x55) ∷ [])))
on_another_chip = record {
  needs = λ is. is.rails;
  suffices = λ same. record { rails = same; resets = refl };
  fails = λ same. let chips : 1 ∷ 1 ∷ [] ≡ 0 ∷ 0 ∷ [] = ap chips_of same in absurd (cc);
}

-- the fields of a rail, on bit first; an ldo has no mode
fields_of_buck : fields_of buck.desc ≡
    record { chip = 1; reg = 0x20; mask = 0x01; shift = 0 } ∷ record { chip = 1; reg = 0x10; mask = 0x7f; shift = 0 }
    ∷ record { chip = 1; reg = 0x30; mask = 0x03; shift = 0 } ∷ record { chip = 1; reg = 0x21; mask = 0x01; shift = 0 }
    ∷ record { chip = 1; reg = 0x40; mask = 0x7f; shift = 0 } ∷ []
fields_of_buck = refl

fields_of_ldo : fields_of ldo.desc ≡
    record { chip = 1; reg = 0x20; mask = 0x02; shift = 1 } ∷ record { chip = 1; reg = 0x14; mask = 0x1f; shift = 0 }
    ∷ record { chip = 1; reg = 0x21; mask = 0x02; shift = 1 } ∷ record { chip = 1; reg = 0x41; mask = 0x1f; shift = 0 } ∷ []
fields_of_ldo = refl

rails_sound : AreSound 1 (chip (buck ∷ ldo ∷ []) [])
rails_sound = All-from_recursion (λ rail. IsSoundOn 1 rail.desc) (buck ∷ ldo ∷ [])
    (lines_sound 1 0x21 0 (buck_line ∷ ldo_line ∷ []) ((omega arith, core8_fills), ((omega arith, linear8_fills), tt)))

buck_sound : IsSoundOn 1 buck.desc
buck_sound = rails_sound 0 buck (omega arith)

-- on a chip of another number no field lies
not_on_first : ¬ IsSoundOn 0 buck.desc
not_on_first is = absurd (omega (arith, is.own Enable))

-- the buck with another on bit
with_bit_placed : (enable : Field) → IsPlaced 2 enable → ArePlaced 2 (record buck.desc { enable = enable })
with_bit_placed enable placed Selector = buck_sound.sound.placed Selector
with_bit_placed enable placed Enable = placed
with_bit_placed enable placed ModePart = buck_sound.sound.placed ModePart
with_bit_placed enable placed SuspendEnable = buck_sound.sound.placed SuspendEnable
with_bit_placed enable placed SuspendSelector = buck_sound.sound.placed SuspendSelector

with_bit_own : (enable : Field) → enable.chip ≡ 1 → (part : Part) → IfSome (described_field part (record buck.desc { enable = enable })) (λ field. field.chip ≡ 1)
with_bit_own enable own Selector = refl
with_bit_own enable own Enable = own
with_bit_own enable own ModePart = refl
with_bit_own enable own SuspendEnable = refl
with_bit_own enable own SuspendSelector = refl

with_bit : (enable : Field) → IsPlaced 2 enable → enable.chip ≡ 1 → HasBits 1 enable → IsSoundOn 1 (record buck.desc { enable = enable })
with_bit enable placed own one = record {
  sound = record {
    placed = with_bit_placed enable placed;
    selector = buck_sound.sound.selector;
    enable = one;
    suspend_enable = buck_sound.sound.suspend_enable;
    modes = buck_sound.sound.modes;
  };
  own = with_bit_own enable own;
  suspend_selector = buck_sound.suspend_selector;
}

-- in the chip before
abbrev bit_before : Field
bit_before = record { chip = 0; reg = 0x20; mask = 0x01; shift = 0 }

bit_in_chip_before : FailsBy (bit_before.chip ≡ 1) (IsSoundOn 1 (record buck.desc { enable = bit_before }))
bit_in_chip_before = record {
  needs = λ is. is.own Enable;
  suffices = λ own. with_bit bit_before (record { shape = record { width = 1; some_bit = omega arith; within = omega arith; run = refl }; chip = omega arith }) own refl;
  fails = λ own. absurd (omega (arith, own));
}

-- of two bits
abbrev two_bits : Field
two_bits = record { chip = 1; reg = 0x20; mask = 0x03; shift = 0 }

two_on_bits : FailsBy (HasBits 1 two_bits) (IsSoundOn 1 (record buck.desc { enable = two_bits }))
two_on_bits = record {
  needs = λ is. is.sound.enable;
  suffices = λ one. with_bit two_bits (record { shape = record { width = 2; some_bit = omega arith; within = omega arith; run = refl }; chip = omega arith }) refl one;
  fails = λ one. absurd (omega (arith, one));
}

-- the selector while suspended, by one bit less
abbrev narrow : Desc
narrow = record buck.desc { suspend_selector = Some (record { chip = 1; reg = 0x40; mask = 0x3f; shift = 0 }) }

narrow_placed : ArePlaced 2 narrow
narrow_placed Selector = buck_sound.sound.placed Selector
narrow_placed Enable = buck_sound.sound.placed Enable
narrow_placed ModePart = buck_sound.sound.placed ModePart
narrow_placed SuspendEnable = buck_sound.sound.placed SuspendEnable
narrow_placed SuspendSelector = record { shape = record { width = 6; some_bit = omega arith; within = omega arith; run = refl }; chip = omega arith }

narrow_own : (part : Part) → IfSome (described_field part narrow) (λ field. field.chip ≡ 1)
narrow_own Selector = refl
narrow_own Enable = refl
narrow_own ModePart = refl
narrow_own SuspendEnable = refl
narrow_own SuspendSelector = refl

narrow_while_suspended : FailsBy (HoldsSelectors core (record { chip = 1; reg = 0x40; mask = 0x3f; shift = 0 })) (IsSoundOn 1 narrow)
narrow_while_suspended = record {
  needs = λ is. is.suspend_selector;
  suffices = λ holds. record {
    sound = record {
      placed = narrow_placed;
      selector = buck_sound.sound.selector;
      enable = buck_sound.sound.enable;
      suspend_enable = buck_sound.sound.suspend_enable;
      modes = buck_sound.sound.modes;
    };
    own = narrow_own;
    suspend_selector = holds;
  };
  fails = λ holds. absurd (omega (arith, (holds 64).1 refl));
}

-- of the rails of a chip one is unsound
one_unsound : ¬ AreSound 1 (chip (buck ∷ rail (codes "buck2") (codes "vin2") (record buck.desc { enable = two_bits }) ∷ []) [])
one_unsound sound = two_on_bits.fails (two_on_bits.needs (sound 1 buck (omega arith)))

rails_apart : AreApart (chip (buck ∷ ldo ∷ []) [])
rails_apart = none_clash (fields_of buck.desc ++ fields_of ldo.desc) refl

-- two rails with one description have each field twice
one_place_for_two : ¬ AreApart (chip (buck ∷ buck ∷ []) [])
one_place_for_two apart = apart 0 5 buck.desc.enable buck.desc.enable (λ same. absurd (omega (arith, same))) refl refl
    (record { chip = 1; reg = 0x20; bit = 0; in_first = (refl, refl, λ zero_bit. absurd (omega arith)); in_second = (refl, refl, λ zero_bit. absurd (omega arith)) })
