-- Masked updates of registers worked out by hand.
use Rattle.std.proofs.Common.{◌≡◌, ℕ, List, [], ◌∷◌, Some, refl, sym, subst}
use Rattle.chip_regs.specs.declared.field.Field.{Field}
use Rattle.chip_regs.specs.Registers.{byte_of, with_byte, with_field}
use Rattle.board.proofs.Boards.{coupled_board}
use Rattle.rail_law.specs.Law.{Law}
use Rattle.rail_law.specs.Moves.{after_write, update_of_field}
use Rattle.rail_law.proofs.Registers.{pair_at}
use Rattle.rail_law.proofs.WorkedLaws.{pair_lawful, too_far}

-- two chips of three registers
abbrev regs : List (List ℕ)
regs = (0x15 ∷ 0x20 ∷ 0x33 ∷ []) ∷ (0x40 ∷ 0x51 ∷ 0xff ∷ []) ∷ []

-- bits 2 and 3 of the first register become 2; its others stay, and so do all other registers
two_bits : after_write regs (record { chip = 0; reg = 0; mask = 0x0c; bits = 0x08 }) ≡ (0x19 ∷ 0x20 ∷ 0x33 ∷ []) ∷ (0x40 ∷ 0x51 ∷ 0xff ∷ []) ∷ []
unfolding with_byte byte_of
two_bits = refl

-- bits outside the mask aren't written
outside_mask : after_write regs (record { chip = 1; reg = 1; mask = 0x0f; bits = 0xfe }) ≡ (0x15 ∷ 0x20 ∷ 0x33 ∷ []) ∷ (0x40 ∷ 0x5e ∷ 0xff ∷ []) ∷ []
unfolding with_byte byte_of
outside_mask = refl

-- a bit is cleared
cleared : after_write regs (record { chip = 1; reg = 2; mask = 0x80; bits = 0 }) ≡ (0x15 ∷ 0x20 ∷ 0x33 ∷ []) ∷ (0x40 ∷ 0x51 ∷ 0x7f ∷ []) ∷ []
unfolding with_byte byte_of
cleared = refl

-- nothing is masked
no_bits : after_write regs (record { chip = 0; reg = 2; mask = 0; bits = 0xff }) ≡ regs
unfolding with_byte byte_of
no_bits = refl

-- 3 in the bits 4 to 6 of a register
abbrev field : Field
field = record { chip = 1; reg = 0; mask = 0x70; shift = 4 }

update : update_of_field (Some field) 3 ≡ record { chip = 1; reg = 0; mask = 0x70; bits = 0x30 }
update = refl

put : after_write regs (update_of_field (Some field) 3) ≡ with_field regs field 3
unfolding with_field with_byte byte_of
put = refl

-- the second of two coupled bucks goes to the selector 47, at 893750 µV: further below the first than the spread lets it
second_lowered : after_write (pair_at 64 48) (record { chip = 0; reg = 0x11; mask = 0x7f; bits = 47 }) ≡ pair_at 64 47
unfolding with_byte byte_of
second_lowered = refl

lowered_breaks : ¬ Law coupled_board (after_write (pair_at 64 48) (record { chip = 0; reg = 0x11; mask = 0x7f; bits = 47 }))
lowered_breaks law = too_far.fails (too_far.needs (subst (Law coupled_board) second_lowered law))

-- and back
second_raised : after_write (pair_at 64 47) (record { chip = 0; reg = 0x11; mask = 0x7f; bits = 48 }) ≡ pair_at 64 48
unfolding with_byte byte_of
second_raised = refl

raised_keeps : Law coupled_board (after_write (pair_at 64 47) (record { chip = 0; reg = 0x11; mask = 0x7f; bits = 48 }))
raised_keeps = subst (Law coupled_board) (sym second_raised) pair_lawful
