use Rattle.std.proofs.Common.{◌<◌, sym, subst, refl, length}
use Rattle.use_counts.specs.Book.{Book}
use Rattle.rail_state.proofs.Handles.{kept-set_same, row_at}
use Rattle.rail_state.proofs.rail_state.RailState.set_enables.Goals as goal

pub invariant_of-self : goal.invariant_of-self
invariant_of-self c =
    let rows = c.self.inside.uses.rows in
    let there = row_at rows c.args.at (subst (λ (book : Book). c.args.at < length book.rows) (sym c.self.view_is) c.requires) in
    rw (c.set_enables.ensures there.0 there.1)
    (kept-set_same rows c.args.at there.0 (record there.0 { enables = c.args.enables }) c.self.inside.requests there.1 refl refl c.self.invariant)
