use Rattle.std.proofs.Common.{[], ◌∷◌, length, take, sym, ap, ◌∙◌}
use Rattle.std.specs.List.{filter_map}
use Rattle.chip_regs.specs.Registers.{with_byte}
use Rattle.board_load.specs.Registers.{with_bytes, reset_regs}
use Rattle.session.specs.declared.setup.Setup.TheVariants.{Register}
use Rattle.session.specs.Loading.{names_no_chip, register_in}
use Rattle.session.proofs.Registers.{length-reset, found_more, chip_below}
use Rattle.session.proofs.loading.found_regs.Goals as goal
use Rattle.session.proofs.loading.found_regs.Goals.{in-Register, in_default}

pub loop-line-init : goal.loop-line-init
loop-line-init c = record { regs = c.in_ok-regs.ensures; chips = ap length c.in_ok-regs.ensures ∙ length-reset c.args.drafted.now }

pub chip_number-chip-requires : goal.chip_number-chip-requires
chip_number-chip-requires c =
    chip_below c.args.drafted.now.board.chips c.in-Register.chip
    (ap (names_no_chip c.args.drafted.now.board.chips) (sym c.in-Register.is) ∙ c.requires.chips c.loop-line.line-index (Register 0 0 0) c.loop-line-test.true)

pub loop-line-preserved : goal.loop-line-preserved
loop-line-preserved c =
    let setup = c.args.setup.now in
    let reset = reset_regs c.args.drafted.now in
    let before = with_bytes reset (filter_map register_in (take c.loop-line.line-index setup)) in
    let more = found_more reset setup c.loop-line.line-index (Register 0 0 0) c.loop-line-test.true in
    elim c.match-line.branch [
      | in-Register w ↦ record {
        regs = w.regs-is ∙ w.set_byte.ensures.registers
            ∙ ap (λ regs. with_byte regs w.chip_number-chip.result w.in-Register.reg w.in-Register.value) c.loop-line.invariant.regs
            ∙ ap (λ chip. with_byte before chip w.in-Register.reg w.in-Register.value) w.chip_number-chip.ensures
            ∙ sym (more ∙ ap (λ line. with_bytes before (filter_map register_in (line ∷ []))) w.in-Register.is);
        chips = ap length w.regs-is ∙ w.set_byte.ensures.chips ∙ c.loop-line.invariant.chips;
      }
      | in_default w ↦ record {
        regs = w.regs-is ∙ c.loop-line.invariant.regs ∙ sym (more ∙ ap (λ line. with_bytes before (filter_map register_in (line ∷ []))) w.in_default.is);
        chips = ap length w.regs-is ∙ c.loop-line.invariant.chips;
      }
    ]
