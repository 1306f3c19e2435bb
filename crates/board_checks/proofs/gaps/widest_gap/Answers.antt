use Rattle.std.proofs.Common.{◌≡◌, ℕ, max, arith, sym, ◌∙◌, subst, nat_cmp}
use Rattle.std.specs.Ordering.{ord_max}
use Rattle.std.proofs.lemmas.Bool.Decides.{nat_tests}
use Rattle.board.specs.Rail.{allowed}
use Rattle.board_checks.proofs.WidestGap.{IsWidestUpTo, next_gap, last_gap}
use Rattle.board_checks.proofs.gaps.widest_gap.Goals as goal

greater : (a b : ℕ) → max a b ≡ ord_max nat_cmp a b
greater a b = grind (arith, nat_tests)

pub loop-high-preserved : goal.loop-high-preserved
loop-high-preserved c =
    subst (IsWidestUpTo (allowed c.args.rail.now) c.in-Some-next_above.high) (greater _ _ ∙ sym c.max-widest.ensures)
    (next_gap (allowed c.args.rail.now) c.loop-high.low c.in-Some-next_above.high c.loop-high.widest c.loop-high.invariant c.in-Some-next_above.ensures)

pub returns : goal.returns
returns c = last_gap (allowed c.args.rail.now) c.loop-high.low c.loop-high.widest c.loop-high.invariant c.in_default-next_above.ensures
