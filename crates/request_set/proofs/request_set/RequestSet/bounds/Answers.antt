use Rattle.std.proofs.Common.{ap, ◌∙◌, subst, Some}
use Rattle.std.specs.Prelude.{fold}
use Rattle.board.specs.Rail.{is_within}
use Rattle.request_set.specs.Inside.{any, narrowed, AreKept}
use Rattle.request_set.proofs.Bounds.{bounds-of_rows, within-bounds}
use Rattle.request_set.proofs.request_set.RequestSet.bounds.Goals as goal

pub returns : goal.returns
returns c =
    let list = c.args.self.now in
    let kept = subst AreKept c.self.view_is c.self.invariant in
    let bounds = bounds-of_rows c.self.inside.rows list c.bounds_of.result (c.bounds_of.ensures ∙ ap (fold narrowed any) c.as_slice.ensures) c.self.view_is kept.fit in
    record {
      within = λ uv small. ap (λ b. is_within (Some b) uv) bounds ∙ within-bounds list uv small;
      lo = ap (λ b. b.0) bounds;
      hi = ap (λ b. b.1) bounds;
    }
