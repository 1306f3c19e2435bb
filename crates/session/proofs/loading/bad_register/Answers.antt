use Rattle.std.proofs.Common.{◌≡◌, ℕ, ◌+◌, ◌∙◌, Some, sym, ap, arith}
use Rattle.std.specs.Option.{option_map}
use Rattle.session.specs.declared.fault.SessionFault.{SessionFault}
use Rattle.session.specs.declared.fault.SessionKind.TheVariants.{BadReg}
use Rattle.session.specs.declared.setup.Setup.{Setup}
use Rattle.session.specs.declared.setup.Setup.TheVariants.{Register}
use Rattle.session.specs.Loading.{names_no_chip}
use Rattle.session.proofs.Tests.{find_at, find_none}
use Rattle.session.proofs.loading.bad_register.Goals as goal

pub returns-then-names_no_chip : goal.returns-then-names_no_chip
returns-then-names_no_chip c =
    let told : ℕ × Setup → SessionFault = λ line. record { line = c.args.before + line.0 + 1; kind = BadReg } in
    let number : 0 + c.loop-at.at ≡ c.loop-at.at = omega arith in
    sym (ap (option_map told) (find_at (names_no_chip c.args.chips) 0 c.loop-at.at c.args.setup.now (Register 0 0 0) c.loop-at.invariant c.loop-at-test.true (sym c.names_no_chip.ensures ∙ c.if-names_no_chip.true))
    ∙ ap (λ n. Some (record { line = c.args.before + n + 1; kind = BadReg })) number)

pub returns : goal.returns
returns c =
    let told : ℕ × Setup → SessionFault = λ line. record { line = c.args.before + line.0 + 1; kind = BadReg } in
    sym (ap (option_map told) (find_none (names_no_chip c.args.chips) 0 c.args.setup.now
    (λ k d within. c.loop-at.invariant k d (omega arith) (omega (arith, within, c.loop-at-test.false)))))
