use Rattle.std.proofs.Common.{ap, ◌∙◌, subst, Some, filter, not}
use Rattle.std.specs.Prelude.{fold}
use Rattle.board.specs.Rail.{is_within}
use Rattle.request_set.specs.Requests.{without, is_asked_by}
use Rattle.request_set.specs.Inside.{asking_of, is_row_of, any, narrowed, AreKept}
use Rattle.request_set.proofs.Bounds.{bounds-of_rows, within-bounds}
use Rattle.request_set.proofs.Places.{map-filter}
use Rattle.request_set.proofs.Once.{kept_without}
use Rattle.request_set.proofs.request_set.RequestSet.bounds_without.Goals as goal

pub returns : goal.returns
returns c =
    let worker = c.args.worker in
    let name = c.args.handle.now.bytes in
    let others = without worker name c.args.self.now in
    let rows = filter (λ row. not (is_row_of worker name row)) c.self.inside.rows in
    let kept = kept_without worker name c.args.self.now (subst AreKept c.self.view_is c.self.invariant) in
    let bounds =
    bounds-of_rows rows others c.bounds_but.result (c.bounds_but.ensures ∙ ap (λ all. fold narrowed any (filter (λ row. not (is_row_of worker name row)) all)) c.as_slice.ensures)
    (map-filter asking_of (λ a. not (is_asked_by worker name a)) c.self.inside.rows ∙ ap (without worker name) c.self.view_is) kept.fit in
    record {
      within = λ uv small. ap (λ b. is_within (Some b) uv) bounds ∙ within-bounds others uv small;
      lo = ap (λ b. b.0) bounds;
      hi = ap (λ b. b.1) bounds;
    }
