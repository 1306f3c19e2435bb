use Rattle.std.proofs.Common.{refl, sym, ◌∙◌, arith, below_more}
use Rattle.std.proofs.lemmas.Bool.{false≢true}
use Rattle.rail_law.specs.Inside.{shown, HoldsFor}
use Rattle.rail_law.proofs.Judged.{law_of_rails, law_for_rail}
use Rattle.rail_law.proofs.law.holds.Goals as goal

pub returns-then-not-holds_for : goal.returns-then-not-holds_for
returns-then-not-holds_for c = (
  λ never. absurd (false≢true never),
  λ law. absurd (false≢true (sym c.if-not-holds_for.true ∙ c.holds_for.ensures.1 (law_for_rail c.args.board.now (shown c.args.write c.args.regs.now) c.loop-r.r law))),
)

pub loop-r-preserved : goal.loop-r-preserved
loop-r-preserved c =
    below_more (λ k. HoldsFor c.args.board.now (shown c.args.write c.args.regs.now) k) c.loop-r.r c.loop-r.invariant (c.holds_for.ensures.0 c.if-not-holds_for.false)

pub returns : goal.returns
returns c =
    (λ yes. law_of_rails c.args.board.now (shown c.args.write c.args.regs.now) (λ r within. c.loop-r.invariant r (omega (arith, within, c.loop-r-test.false, c.len-r-end.ensures))), λ law. refl)
