use Rattle.std.proofs.Common.{ℕ, arith, below_more, refl}
use Rattle.std.specs.Prelude.{IsTrue}
use Rattle.chip_regs.specs.Clash.{ClashesAt}
use Rattle.chip_regs.proofs.Clashes.{clash-at, apart-read, clash_within, first-clash, none-clash}
use Rattle.chip_regs.proofs.clash.disjoint.Goals as goal

pub returns-then-shares_bit-clause-clash : goal.returns-then-shares_bit-clause-clash
returns-then-shares_bit-clause-clash c =
    first-clash c.args.fields.now _ c.loop-first.invariant c.loop-second.invariant
    (clash-at c.args.fields.now c.loop-first.first c.loop-second.second (omega arith) (omega arith) (c.shares_bit.ensures.0 c.if-shares_bit.true))

pub loop-second-preserved : goal.loop-second-preserved
loop-second-preserved c =
    below_more _ _ c.loop-second.invariant
    (apart-read c.args.fields.now c.loop-first.first c.loop-second.second c.loop-first-test.true (omega arith)
    (λ shared. let holds : IsTrue c.shares_bit.result = c.shares_bit.ensures.1 shared in cc))

pub loop-first-preserved : goal.loop-first-preserved
loop-first-preserved c =
    below_more _ _ c.loop-first.invariant
    (λ j clash. c.loop-second.invariant j (let within = clash_within c.args.fields.now c.loop-first.first j clash in omega (arith, within)) clash)

pub returns-clause-ok : goal.returns-clause-ok
returns-clause-ok c =
    let none : (i j : ℕ) → ¬ ClashesAt c.args.fields.now i j =
    λ i j clash. c.loop-first.invariant i (let within = clash_within c.args.fields.now i j clash in omega (arith, within, clash.before)) j clash in
    (λ _. none-clash c.args.fields.now none, λ _. refl)
