use Rattle.std.proofs.Common.{ℕ, ◌≡◌, ◌+◌, ◌-◌, ◌*◌, ◌/◌, ◌%◌, ◌^◌, ◌≤◌, arith, sym, ◌∙◌, ap, below_more, rules}
use Rattle.chip_regs.specs.Width.{register_contents, register_width}
use Rattle.chip_regs.specs.Field.{IsField}
use Rattle.chip_regs.proofs.Masks.{run-shifted}
use Rattle.chip_regs.proofs.field.Field.fits.Goals as goal

-- what the body makes is the run of this width
made : (width shift given : ℕ) → given ≡ shift → shift + width ≤ register_width → (register_contents - 1) / 2 ^ (register_width - width) * 2 ^ given % register_contents ≡ (2 ^ width - 1) * 2 ^ shift
made width shift given same within = ap (λ k. (register_contents - 1) / 2 ^ (register_width - width) * 2 ^ k % register_contents) same ∙ run-shifted width shift within

pub returns-then-self-run : goal.returns-then-self-run
returns-then-self-run c =
    let width = c.loop-width.width in
    let shift = c.args.self.now.shift in
    let within : shift + width ≤ register_width = omega arith in
    let field : IsField c.args.self.now = record {
      width = width;
      some_bit = c.loop-width.auto.width;
      within = within;
      run = c.if-self-run.true ∙ made width shift c.from-shift.result c.from-shift.ensures within;
    } in
    (λ _. field, λ _. search rules)

pub loop-width-preserved : goal.loop-width-preserved
loop-width-preserved c =
    let here = c.loop-width.width in
    let shift = c.args.self.now.shift in
    let within : shift + here ≤ register_width = omega arith in
    below_more _ _ c.loop-width.invariant
    (λ positive is. c.if-self-run.false (is ∙ sym (made here shift c.from-shift.result c.from-shift.ensures within)))
