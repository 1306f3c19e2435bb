use Rattle.std.proofs.Common.{ℕ, List, get_or, sym, ap, ◌∙◌}
use Rattle.chip_regs.specs.Registers.{with_field}
use Rattle.board_load.specs.declared.puts.Put.{Put}
use Rattle.board_load.proofs.PutLemmas.{after_more}
use Rattle.board_load.proofs.puts.apply.Goals as goal

pub loop-put-preserved : goal.loop-put-preserved
loop-put-preserved c =
    let none : Put = record { field = record { chip = 0; reg = 0; mask = 0; shift = 0 }; bits = 0 } in
    let put : Put = get_or c.args.puts.now c.loop-put.put-index none in
    let more = after_more c.args.regs.now c.args.puts.now c.loop-put.put-index none c.loop-put-test.true in
    record {
      chips = c.put.ensures.chips ∙ c.loop-put.invariant.chips;
      regs = c.put.ensures.registers ∙ ap (λ (regs : List (List ℕ)). with_field regs put.field put.bits) c.loop-put.invariant.regs ∙ sym more;
    }
