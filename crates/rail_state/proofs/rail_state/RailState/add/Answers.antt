use Rattle.std.proofs.Common.{◌≡◌, ◌-◌, arith, ap, ◌∙◌, false, sym, subst, List, length, remove, All}
use Rattle.std.proofs.lemmas.List.{length_push}
use Rattle.use_counts.specs.Book.{Book}
use Rattle.use_counts.specs.declared.handle_row.HandleRow.{HandleRow}
use Rattle.use_counts.specs.Uses.{Uses, is_row_of}
use Rattle.rail_state.proofs.Handles.{kept-push, kept-push_quiet, remove-last}
use Rattle.rail_state.proofs.rail_state.RailState.add.Goals.{After-remove}
use Rattle.rail_state.proofs.rail_state.RailState.add.Goals as goal

-- the handle is new to those that are kept
new : (rows : List HandleRow) (book : Book) (row : HandleRow) → rows ≡ book.rows → All (λ other. is_row_of other.worker other.handle.bytes row ≡ false) book.rows → All (λ other. is_row_of other.worker other.handle.bytes row ≡ false) rows
new rows book row same = subst (All (λ other. is_row_of other.worker other.handle.bytes row ≡ false)) (sym same)

pub invariant_of-self : goal.invariant_of-self
invariant_of-self c = rw c.in_err-add.ensures.err c.self.invariant

pub invariant_of-self-in_default : goal.invariant_of-self-in_default
invariant_of-self-in_default c = rw c.in_ok-add.ensures.ok (kept-push_quiet c.self.inside.uses.rows c.args.row c.self.inside.requests c.in_default.is (new c.self.inside.uses.rows c.args.self.now c.args.row (ap (λ (book : Book). book.rows) c.self.view_is) c.requires.new) c.self.invariant)

pub invariant_of-self-in-Ok : goal.invariant_of-self-in-Ok
invariant_of-self-in-Ok c =
    rw (c.in_ok-add.ensures.ok, c.in-Ok.ensures.ok)
    (kept-push c.self.inside.uses.rows c.args.row c.self.inside.requests c.in-Some.lo c.in-Some.hi c.in-Some.is (new c.self.inside.uses.rows c.args.self.now c.args.row (ap (λ (book : Book). book.rows) c.self.view_is) c.requires.new) c.self.invariant)

-- the row that was put last is out again
as_before : (c : After-remove) → c.remove.new.self.rows ≡ c.self.inside.uses.rows
as_before c =
    let rows = c.self.inside.uses.rows in
    let at = length c.rows.result.now - 1 in
    let more = ap (λ (uses : Uses). uses.rows) c.in_ok-add.ensures.ok in
    ap (λ (uses : Uses). uses.rows) c.remove.ensures.rest
    ∙ ap (λ rows. remove rows at) more
    ∙ remove-last rows c.args.row at (omega (arith, ap length c.rows.ensures, ap length more, length_push rows c.args.row))

pub invariant_of-self-in-Err : goal.invariant_of-self-in-Err
invariant_of-self-in-Err c = rw (as_before c, c.in-Err.ensures.err) c.self.invariant
