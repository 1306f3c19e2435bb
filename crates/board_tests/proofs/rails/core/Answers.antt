use Rattle.std.proofs.Common.{◌≡◌, ℕ, Some, None, refl, ap, arith}
use Rattle.std.specs.Prelude.{IfSome}
use Rattle.chip_regs.specs.declared.field.Field.{Field}
use Rattle.board.specs.declared.desc.Desc.{Desc}
use Rattle.board.specs.declared.part.Part.{Part}
use Rattle.board.specs.declared.part.Part.TheVariants.{Selector, Enable, ModePart, SuspendEnable, SuspendSelector}
use Rattle.board.specs.Desc.{described_field, IsPlaced}
use Rattle.board_tests.proofs.rails.core.Goals as goal

abbrev low_bits : ℕ → ℕ → Field
low_bits reg mask = record { chip = 0; reg = reg; mask = mask; shift = 0 }

placed_by : (desc : Desc) → desc.selector ≡ Some (low_bits 0x10 0x7f) → desc.enable ≡ low_bits 0x20 0x01 → desc.modes ≡ Some (low_bits 0x30 0x03) → desc.suspend_enable ≡ None → desc.suspend_selector ≡ None
    → (part : Part) → IfSome (described_field part desc) (IsPlaced 1)
placed_by desc s e m se ss Selector = rw s (record { shape = record { width = 7; some_bit = omega arith; within = omega arith; run = refl }; chip = omega arith })
placed_by desc s e m se ss Enable = rw e (record { shape = record { width = 1; some_bit = omega arith; within = omega arith; run = refl }; chip = omega arith })
placed_by desc s e m se ss ModePart = rw m (record { shape = record { width = 2; some_bit = omega arith; within = omega arith; run = refl }; chip = omega arith })
placed_by desc s e m se ss SuspendEnable = rw se tt
placed_by desc s e m se ss SuspendSelector = rw ss tt

pub returns : goal.returns
returns c = placed_by _ (ap Some c.field-selector.ensures) c.field-enable.ensures (ap Some c.field.ensures) refl refl
