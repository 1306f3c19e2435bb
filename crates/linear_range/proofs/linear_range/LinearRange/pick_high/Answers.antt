use Rattle.std.proofs.Common.{Some, ap, ◌∙◌}
use Rattle.linear_range.proofs.Singles.{high_below}
use Rattle.linear_range.proofs.linear_range.LinearRange.pick_high.Goals as goal

pub returns-then-uv-self : goal.returns-then-uv-self
returns-then-uv-self c =
    ap Some c.first_pick.ensures ∙ high_below c.args.self.now c.requires c.args.uv c.if-uv-self.true
