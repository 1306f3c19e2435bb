use Rattle.std.proofs.Common.{ℕ, ◌∙◌, get_or, take, sym, ap}
use Rattle.std.proofs.lemmas.List.{take_more}
use Rattle.chip_regs.specs.Registers.{with_byte}
use Rattle.board_load.specs.Registers.{with_bytes}
use Rattle.board_load.proofs.NewBytes.{with_bytes-more}
use Rattle.board_load.proofs.registers.set_bytes.Goals as goal

pub loop-chip-preserved : goal.loop-chip-preserved
loop-chip-preserved c =
    let news = c.args.news.now in
    let i = c.loop-chip.chip-index in
    let new : ℕ × ℕ × ℕ = get_or news i (0, 0, 0) in
    record {
      registers = c.set_byte.ensures.registers
          ∙ ap (λ regs. with_byte regs new.0 new.1 new.2) c.loop-chip.invariant.registers
          ∙ sym (with_bytes-more c.args.regs.now (take i news) new)
          ∙ ap (with_bytes c.args.regs.now) (sym (take_more news i (0, 0, 0) c.loop-chip-test.true));
      chips = c.set_byte.ensures.chips ∙ c.loop-chip.invariant.chips;
    }
