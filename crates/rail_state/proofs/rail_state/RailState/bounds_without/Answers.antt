use Rattle.std.proofs.Common.{ap, ◌∙◌}
use Rattle.use_counts.specs.Book.{Book}
use Rattle.rail_state.specs.Requests.{meets_rows, others_than}
use Rattle.rail_state.proofs.Handles.{meets-others}
use Rattle.rail_state.proofs.rail_state.RailState.bounds_without.Goals as goal

pub returns : goal.returns
returns c =
    let worker = c.args.worker in
    let name = c.args.handle.now.bytes in
    λ uv small.
    c.bounds_without.ensures.within uv small
    ∙ meets-others worker name c.self.inside.uses.rows c.self.inside.requests uv c.self.invariant
    ∙ ap (λ (book : Book). meets_rows (others_than worker name book.rows) uv) c.self.view_is
