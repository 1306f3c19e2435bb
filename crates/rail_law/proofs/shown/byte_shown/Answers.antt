use Rattle.std.proofs.Common.{◌-◌, ◌+◌, bit_and, sym, ap, ◌∙◌, subst, inl, inr}
use Rattle.chip_regs.specs.Registers.{HasChip, byte_of}
use Rattle.rail_law.specs.Inside.{shown, IsThere}
use Rattle.rail_law.proofs.Updates.{byte_of-after_write, byte_of-after_write_other}
use Rattle.rail_law.proofs.shown.byte_shown.Goals.{In-Some, else-write-chip-via-then-write-chip+else-write-reg, else-write-chip-via-else-write-chip}
use Rattle.rail_law.proofs.shown.byte_shown.Goals as goal

there : (c : In-Some) → HasChip c.args.regs.now c.in-Some.write.chip
there c = subst (λ write. IsThere write c.args.regs.now) c.in-Some.is c.requires.there

pub returns-then-write-reg : goal.returns-then-write-reg
returns-then-write-reg c =
    let write = c.in-Some.write in
    c.masked.ensures
    ∙ ap (λ byte. byte - bit_and byte write.mask + bit_and write.bits write.mask) c.byte-byte.ensures
    ∙ sym (byte_of-after_write c.args.regs.now write c.args.chip c.args.reg c.chips-chips.ensures.image (there (goal.at.returns-then-write-reg c).In-Some) c.ranges.reg.fits c.if-write-chip.true c.if-write-reg.true)
    ∙ ap (λ after. byte_of (shown after c.args.regs.now) c.args.chip c.args.reg) (sym c.in-Some.is)

pub returns-else-write-chip : goal.returns-else-write-chip
returns-else-write-chip c =
    let write = c.in-Some.write in
    let has = there (goal.at.returns-else-write-chip c).In-Some in
    c.byte-byte.ensures
    ∙ sym (elim c.else-write-chip.branch [
      | else-write-chip-via-then-write-chip+else-write-reg w ↦ byte_of-after_write_other c.args.regs.now write c.args.chip c.args.reg has (inr (λ same. w.if-write-reg.false (sym same)))
      | else-write-chip-via-else-write-chip w ↦ byte_of-after_write_other c.args.regs.now write c.args.chip c.args.reg has (inl (λ same. w.if-write-chip.false (sym same)))
    ])
    ∙ ap (λ after. byte_of (shown after c.args.regs.now) c.args.chip c.args.reg) (sym c.in-Some.is)
