-- A masked update of a register, and what is read after it.
use Rattle.std.proofs.Common.{◌≡◌, ◌≢◌, ◌⊎◌, ℕ, ◌+◌, ◌-◌, ◌<◌, bit_and, bit_or, List, Some, sym, ap, ◌∙◌, subst}
use Rattle.std.specs.Int.Bits.{and_self}
use Rattle.std.proofs.lemmas.Nat.{and_assoc}
use Rattle.chip_regs.specs.Width.{register_contents, chip_registers}
use Rattle.chip_regs.specs.declared.field.Field.{Field}
use Rattle.chip_regs.specs.Field.{IsField, FitsField}
use Rattle.chip_regs.specs.Registers.{IsImage, HasChip, byte_of, with_byte, with_field}
use Rattle.chip_regs.proofs.Masks.{kept_of-not, merged}
use Rattle.chip_regs.proofs.Image.{byte_of-with_byte, byte_of-with_byte_other}
use Rattle.chip_regs.proofs.Fields.{and-mask}
use Rattle.board.specs.declared.write.Write.{Write}
use Rattle.rail_law.specs.Moves.{after_write, update_of_field}

masked_twice : (bits mask : ℕ) → bit_and (bit_and bits mask) mask ≡ bit_and bits mask
masked_twice bits mask = and_assoc mask bits mask ∙ ap (bit_and bits) (and_self mask)

pub merged_byte : (byte mask bits : ℕ) → byte < register_contents → mask < register_contents
    → bit_or (bit_and byte (register_contents - 1 - mask)) (bit_and bits mask) ≡ byte - bit_and byte mask + bit_and bits mask
merged_byte byte mask bits small narrow =
    ap (λ kept. bit_or kept (bit_and bits mask)) (kept_of-not byte mask small narrow) ∙ merged byte mask (bit_and bits mask) small narrow (masked_twice bits mask)

-- the register that is written
pub byte_of-after_write : (R : List (List ℕ)) (write : Write) (chip reg : ℕ) → IsImage R → HasChip R write.chip → reg < chip_registers → write.chip ≡ chip → write.reg ≡ reg
    → byte_of (after_write R write) chip reg ≡ byte_of R chip reg - bit_and (byte_of R chip reg) write.mask + bit_and write.bits write.mask
byte_of-after_write R write chip reg image has small same_chip same_reg =
    let put : ℕ → ℕ = λ byte. byte - bit_and byte write.mask + bit_and write.bits write.mask in
    ap (λ c. byte_of (after_write R write) c reg) (sym same_chip)
    ∙ ap (byte_of (after_write R write) write.chip) (sym same_reg)
    ∙ byte_of-with_byte R write.chip write.reg (put (byte_of R write.chip write.reg)) image has (subst (λ r. r < chip_registers) (sym same_reg) small)
    ∙ ap (λ c. put (byte_of R c write.reg)) same_chip
    ∙ ap (λ r. put (byte_of R chip r)) same_reg

-- and any other
pub byte_of-after_write_other : (R : List (List ℕ)) (write : Write) (chip reg : ℕ) → HasChip R write.chip → (chip ≢ write.chip) ⊎ (reg ≢ write.reg)
    → byte_of (after_write R write) chip reg ≡ byte_of R chip reg
byte_of-after_write_other R write chip reg has apart =
    let byte = byte_of R write.chip write.reg in
    byte_of-with_byte_other R write.chip write.reg (byte - bit_and byte write.mask + bit_and write.bits write.mask) chip reg has apart

pub update_is_put_lem : (regs : List (List ℕ)) (field : Field) (bits : ℕ) → IsField field → FitsField field bits → after_write regs (update_of_field (Some field) bits) ≡ with_field regs field bits
unfolding with_field
update_is_put_lem regs field bits shape room =
    let byte = byte_of regs field.chip field.reg in
    ap (λ part. with_byte regs field.chip field.reg (byte - bit_and byte field.mask + part)) (and-mask field bits shape room)
