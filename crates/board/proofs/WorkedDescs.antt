-- Descriptions worked out by hand.
use Rattle.std.specs.Prelude.{IsSome}
use Rattle.std.proofs.Common.{◌≡◌, ℕ, zero, suc, ◌+◌, ◌-◌, ◌*◌, ◌/◌, ◌^◌, ◌<◌, Some, None, refl, ap, ◌∙◌, arith}
use Rattle.std.proofs.lemmas.Nat.{shl-shr}
use Rattle.chip_regs.specs.declared.field.Field.{Field}
use Rattle.chip_regs.specs.Field.{IsField}
use Rattle.chip_regs.specs.Width.{register_width}
use Rattle.board_graph.proofs.FailsBy.{FailsBy}
use Rattle.board.specs.declared.desc.Desc.{Desc}
use Rattle.board.specs.declared.part.Part.TheVariants.{Selector, Enable, ModePart, SuspendEnable, SuspendSelector}
use Rattle.board.specs.declared.table.Table.{Table}
use Rattle.board.specs.Desc.{IsPlaced, ArePlaced, HoldsSelectors, HasBits, IsSoundDesc}
use Rattle.board.proofs.Boards.{low_bits, bit, core_table, io_table, usb_table, buck, ldo, fixed}
use Rattle.board.proofs.Exact.{FillsMask, low_holds, one_has, two_has, listed_has, entries_of}

-- a field in the last of two chips, and one in the first chip behind them
in_last_chip : IsPlaced 2 (record { chip = 1; reg = 0; mask = 1; shift = 0 })
in_last_chip = record { shape = record { width = 1; some_bit = omega arith; within = omega arith; run = refl }; chip = omega arith }

behind_last_chip : FailsBy (1 < 1) (IsPlaced 1 (record { chip = 1; reg = 0; mask = 1; shift = 0 }))
behind_last_chip = record {
  needs = λ placed. placed.chip;
  suffices = λ below. record { shape = record { width = 1; some_bit = omega arith; within = omega arith; run = refl }; chip = below };
  fails = λ below. absurd (omega arith);
}

-- bits with a hole are no field
abbrev holed : Field
holed = record { chip = 0; reg = 0; mask = 5; shift = 0 }

two_bits_apart : (width : ℕ) → 5 ≡ (2 ^ width - 1) * 2 ^ 0 → ⊥
two_bits_apart zero is = absurd (omega arith)
two_bits_apart (suc zero) is = absurd (omega arith)
two_bits_apart (suc (suc zero)) is = absurd (omega arith)
two_bits_apart (suc (suc (suc width))) is = absurd (grind arith)

with_a_hole : FailsBy (IsField holed) (IsPlaced 1 holed)
with_a_hole = record {
  needs = λ placed. placed.shape;
  suffices = λ shape. record { shape = shape; chip = omega arith };
  fails = λ shape. two_bits_apart shape.width shape.run;
}

pub core_fills : FillsMask core_table 0x7f
core_fills = record { width = 7; some = omega arith; within = omega arith; ones = refl; has = one_has 600000 6250 127 }

pub io_fills : FillsMask io_table 0x1f
io_fills = record { width = 5; some = omega arith; within = omega arith; ones = refl; has = two_has 800000 50000 15 1600000 100000 16 31 refl (omega arith) }

pub usb_fills : FillsMask usb_table 0x07
usb_fills = record { width = 3; some = omega arith; within = omega arith; ones = refl; has = listed_has (entries_of usb_table) 7 refl }

core_holds : HoldsSelectors core_table (low_bits 0x10 0x7f)
core_holds = low_holds core_table 0 0x10 0x7f core_fills

-- a field of a bit more has numbers without a value
too_wide : ¬ HoldsSelectors usb_table (low_bits 0x13 0x0f)
too_wide holds = let some : IsSome {T = ℕ} None = (holds 8).0 (omega arith) in cc

-- into one of a bit less not every selector fits
too_narrow : ¬ HoldsSelectors usb_table (low_bits 0x13 0x03)
too_narrow holds = absurd (omega (arith, (holds 4).1 refl))

-- a bit, wherever it stands
bit-wide : (reg k : ℕ) → HasBits 1 (bit reg k)
bit-wide reg k = ap (λ mask. mask / 2 ^ k) (omega arith) ∙ shl-shr 1 k

one_bit : HasBits 1 (bit 0x20 5)
one_bit = refl

two_bits : HasBits 2 (record { chip = 0; reg = 0x30; mask = 0xc0; shift = 6 })
two_bits = refl

not_one_bit : ¬ HasBits 1 (low_bits 0x20 0x03)
not_one_bit is = absurd (omega arith)

-- in chip 0 of so many chips: a field from bit 0 on, a bit, and a mode
module _ (chips : ℕ) (some_chip : 0 < chips) where
  low_placed : (table : Table) (reg mask : ℕ) → FillsMask table mask → IsPlaced chips (low_bits reg mask)
  low_placed table reg mask fills = record { shape = record { width = fills.width; some_bit = fills.some; within = omega (arith, fills.within); run = rw fills.ones (omega arith) }; chip = some_chip }

  bit_placed : (reg k : ℕ) → k < register_width → IsPlaced chips (bit reg k)
  bit_placed reg k few = record { shape = record { width = 1; some_bit = omega arith; within = omega arith; run = omega arith }; chip = some_chip }

  modes_placed : (k : ℕ) → k < 4 → IsPlaced chips (record { chip = 0; reg = 0x30; mask = 3 * 2 ^ (2 * k); shift = 2 * k })
  modes_placed k few = record { shape = record { width = 2; some_bit = omega arith; within = omega arith; run = refl }; chip = some_chip }

  module _ (k : ℕ) (few : k < 4) (table : Table) (mask : ℕ) (fills : FillsMask table mask) where
    pub buck_placed : ArePlaced chips (buck k table mask)
    buck_placed Selector = low_placed table (0x10 + k) mask fills
    buck_placed Enable = bit_placed 0x20 k (omega arith)
    buck_placed ModePart = modes_placed k few
    buck_placed SuspendEnable = bit_placed 0x21 k (omega arith)
    buck_placed SuspendSelector = low_placed table (0x40 + k) mask fills

    ldo_placed : ArePlaced chips (ldo k table mask)
    ldo_placed Selector = low_placed table (0x10 + k) mask fills
    ldo_placed Enable = bit_placed 0x20 k (omega arith)
    ldo_placed ModePart = tt
    ldo_placed SuspendEnable = bit_placed 0x21 k (omega arith)
    ldo_placed SuspendSelector = low_placed table (0x40 + k) mask fills

    pub buck_sound : IsSoundDesc chips (buck k table mask)
    buck_sound = record {
      placed = buck_placed;
      selector = low_holds table 0 (0x10 + k) mask fills;
      enable = bit-wide 0x20 k;
      suspend_enable = bit-wide 0x21 k;
      modes = shl-shr 3 (2 * k);
    }

    pub ldo_sound : IsSoundDesc chips (ldo k table mask)
    ldo_sound = record {
      placed = ldo_placed;
      selector = low_holds table 0 (0x10 + k) mask fills;
      enable = bit-wide 0x20 k;
      suspend_enable = bit-wide 0x21 k;
      modes = tt;
    }

-- a rail of one value, in the second of two chips
fixed_placed : (uv : ℕ) → ArePlaced 2 (fixed uv)
fixed_placed uv Selector = tt
fixed_placed uv Enable = in_last_chip
fixed_placed uv ModePart = tt
fixed_placed uv SuspendEnable = tt
fixed_placed uv SuspendSelector = tt

pub fixed_sound : (uv : ℕ) → IsSoundDesc 2 (fixed uv)
fixed_sound uv = record { placed = fixed_placed uv; selector = tt; enable = refl; suspend_enable = tt; modes = tt }

-- in a chip that isn't there
without_its_chip : FailsBy (ArePlaced 1 (fixed 5)) (IsSoundDesc 1 (fixed 5))
without_its_chip = record {
  needs = λ sound. sound.placed;
  suffices = λ placed. record { placed = placed; selector = tt; enable = refl; suspend_enable = tt; modes = tt };
  fails = λ placed. absurd (omega (arith, (placed Enable).chip));
}

-- a buck, of which one field alone is turned
abbrev turned : Desc
turned = buck 0 usb_table 0x07

sound : IsSoundDesc 1 turned
sound = buck_sound 1 (omega arith) 0 (omega arith) usb_table 0x07 usb_fills

wide : (reg : ℕ) → IsPlaced 1 (low_bits reg 0x0f)
wide reg = record { shape = record { width = 4; some_bit = omega arith; within = omega arith; run = refl }; chip = omega arith }

wide_placed : ArePlaced 1 (record turned { selector = Some (low_bits 0x10 0x0f) })
wide_placed Selector = wide 0x10
wide_placed Enable = sound.placed Enable
wide_placed ModePart = sound.placed ModePart
wide_placed SuspendEnable = sound.placed SuspendEnable
wide_placed SuspendSelector = sound.placed SuspendSelector

wide_selector : FailsBy (HoldsSelectors usb_table (low_bits 0x10 0x0f)) (IsSoundDesc 1 (record turned { selector = Some (low_bits 0x10 0x0f) }))
wide_selector = record {
  needs = λ sound. sound.selector;
  suffices = λ holds. record { placed = wide_placed; selector = holds; enable = sound.enable; suspend_enable = sound.suspend_enable; modes = sound.modes };
  fails = λ holds. let some : IsSome {T = ℕ} None = (holds 8).0 (omega arith) in cc;
}

wide_enable_placed : ArePlaced 1 (record turned { enable = low_bits 0x20 0x0f })
wide_enable_placed Selector = sound.placed Selector
wide_enable_placed Enable = wide 0x20
wide_enable_placed ModePart = sound.placed ModePart
wide_enable_placed SuspendEnable = sound.placed SuspendEnable
wide_enable_placed SuspendSelector = sound.placed SuspendSelector

wide_enable : FailsBy (HasBits 1 (low_bits 0x20 0x0f)) (IsSoundDesc 1 (record turned { enable = low_bits 0x20 0x0f }))
wide_enable = record {
  needs = λ sound. sound.enable;
  suffices = λ bits. record { placed = wide_enable_placed; selector = sound.selector; enable = bits; suspend_enable = sound.suspend_enable; modes = sound.modes };
  fails = λ bits. absurd (omega arith);
}

wide_suspend_placed : ArePlaced 1 (record turned { suspend_enable = Some (low_bits 0x21 0x0f) })
wide_suspend_placed Selector = sound.placed Selector
wide_suspend_placed Enable = sound.placed Enable
wide_suspend_placed ModePart = sound.placed ModePart
wide_suspend_placed SuspendEnable = wide 0x21
wide_suspend_placed SuspendSelector = sound.placed SuspendSelector

wide_suspend : FailsBy (HasBits 1 (low_bits 0x21 0x0f)) (IsSoundDesc 1 (record turned { suspend_enable = Some (low_bits 0x21 0x0f) }))
wide_suspend = record {
  needs = λ sound. sound.suspend_enable;
  suffices = λ bits. record { placed = wide_suspend_placed; selector = sound.selector; enable = sound.enable; suspend_enable = bits; modes = sound.modes };
  fails = λ bits. absurd (omega arith);
}

wide_modes_placed : ArePlaced 1 (record turned { modes = Some (low_bits 0x30 0x0f) })
wide_modes_placed Selector = sound.placed Selector
wide_modes_placed Enable = sound.placed Enable
wide_modes_placed ModePart = wide 0x30
wide_modes_placed SuspendEnable = sound.placed SuspendEnable
wide_modes_placed SuspendSelector = sound.placed SuspendSelector

wide_modes : FailsBy (HasBits 2 (low_bits 0x30 0x0f)) (IsSoundDesc 1 (record turned { modes = Some (low_bits 0x30 0x0f) }))
wide_modes = record {
  needs = λ sound. sound.modes;
  suffices = λ bits. record { placed = wide_modes_placed; selector = sound.selector; enable = sound.enable; suspend_enable = sound.suspend_enable; modes = bits };
  fails = λ bits. absurd (omega arith);
}
