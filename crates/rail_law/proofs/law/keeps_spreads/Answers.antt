use Rattle.std.proofs.Common.{refl, sym, ◌∙◌, arith, below_more}
use Rattle.std.proofs.lemmas.Bool.{false≢true}
use Rattle.std.proofs.lemmas.Option.{slice_get_within}
use Rattle.rail_law.specs.Inside.{shown, KeepsSpread}
use Rattle.rail_law.proofs.law.keeps_spreads.Goals as goal

pub returns-then-not-keeps_spread : goal.returns-then-not-keeps_spread
returns-then-not-keeps_spread c =
    (λ never. absurd (false≢true never), λ all. absurd (false≢true (sym c.if-not-keeps_spread.true ∙ c.keeps_spread.ensures.1 (all c.loop-other.other))))

pub loop-other-preserved : goal.loop-other-preserved
loop-other-preserved c =
    below_more (λ k. KeepsSpread c.args.board.now (shown c.args.write c.args.regs.now) c.args.r k) c.loop-other.other c.loop-other.invariant (c.keeps_spread.ensures.0 c.if-not-keeps_spread.false)

pub returns : goal.returns
returns c = (
  λ yes other group spread a b coupled in_group spread_is a_is b_is.
      c.loop-other.invariant other (omega (arith, slice_get_within c.args.board.now.rails other b b_is, c.loop-other-test.false, c.len-other-end.ensures)) group spread a b coupled in_group spread_is a_is b_is,
  λ all. refl,
)
