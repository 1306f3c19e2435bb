use Rattle.std.proofs.Common.{Some, ap, ◌∙◌}
use Rattle.linear_range.proofs.Singles.{low_flat}
use Rattle.linear_range.proofs.linear_range.LinearRange.pick_low.Goals as goal

pub returns-then-self-uv : goal.returns-then-self-uv
returns-then-self-uv c =
    ap Some c.first_pick.ensures ∙ low_flat c.args.self.now c.requires c.args.uv c.if-self-uv.true c.if-self-eq0.true
