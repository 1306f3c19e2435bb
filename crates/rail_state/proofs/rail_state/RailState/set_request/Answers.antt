use Rattle.std.proofs.Common.{◌≡◌, ◌<◌, ℕ, ap, ◌∙◌, refl, sym, subst, List, Option, Some, IsOk, IsSome, length, get_or, slice_get, slice_set}
use Rattle.std.proofs.lemmas.Bool.{false≢true}
use Rattle.std.proofs.lemmas.Option.{same_Some, slice_get_read}
use Rattle.use_counts.specs.declared.handle_row.HandleRow.{HandleRow}
use Rattle.use_counts.specs.Book.{Book}
use Rattle.use_counts.specs.Uses.{Uses}
use Rattle.rail_state.proofs.Handles.{asked-row, kept-set_asking, kept-set_quiet}
use Rattle.rail_state.proofs.rail_state.RailState.set_request.Goals.{in-Some+in_ok-set-in-Some, in-None}
use Rattle.rail_state.proofs.rail_state.RailState.set_request.Goals as goal

-- the row that is read is the one at its place
its_row : (rows seen : List HandleRow) (book : Book) (at : ℕ) (row : HandleRow) → rows ≡ book.rows → at < length book.rows → seen ≡ rows → row ≡ get_or seen at row → slice_get rows at ≡ Some row
its_row rows seen book at row same within sees is =
    slice_get_read rows (length rows) at row refl (subst (λ (rows : List HandleRow). at < length rows) (sym same) within) (is ∙ ap (λ rows. get_or rows at row) sees)

-- the handles after it
rows_after : (before kept after : Uses) (at : ℕ) (row : HandleRow) (request : Option (ℕ × ℕ)) → kept ≡ before
    → ((one : HandleRow) → slice_get kept.rows at ≡ Some one → after ≡ record kept { rows = slice_set kept.rows at (record one { request = request }) })
    → slice_get before.rows at ≡ Some row → after.rows ≡ slice_set before.rows at (record row { request = request })
rows_after before kept after at row request same sets is =
    ap (λ (uses : Uses). uses.rows) (sets row (subst (λ (uses : Uses). slice_get uses.rows at ≡ Some row) (sym same) is))
    ∙ ap (λ (uses : Uses). slice_set uses.rows at (record row { request = request })) same

pub returns-in_err-set-in-Some-clause-replaced : goal.returns-in_err-set-in-Some-clause-replaced
returns-in_err-set-in-Some-clause-replaced c =
    let rows = c.self.inside.uses.rows in
    let at = c.args.at in
    let row = c.index-rows-at.result in
    let here = ap (λ (book : Book). book.rows) c.self.view_is in
    let its = its_row rows c.rows.result.now c.args.self.now at row here c.requires c.rows.ensures c.index-rows-at.is in
    λ one is asks.
    let same = same_Some one row (sym is ∙ ap (λ rows. slice_get rows at) (sym here) ∙ its) in
    let asked = asked-row rows at row c.self.inside.requests its (subst (λ (row : HandleRow). IsSome row.request) same asks) c.self.invariant in
    absurd (false≢true (subst IsOk c.in_err-set-in-Some.was (c.set.ensures.replaced asked)))

pub invariant_of-self-2 : goal.invariant_of-self-2
invariant_of-self-2 c =
    let rows = c.self.inside.uses.rows in
    let at = c.args.at in
    let row = c.index-rows-at.result in
    let its = its_row rows c.rows.result.now c.args.self.now at row (ap (λ (book : Book). book.rows) c.self.view_is) c.requires c.rows.ensures c.index-rows-at.is in
    elim c.match-request.branch [
      | in-Some+in_ok-set-in-Some w ↦
          let after = rows_after c.self.inside.uses c.match-request.self-inside.uses c.set_request.new.self at row c.args.request (ap (λ inside. inside.uses) w.self-inside-is) c.set_request.ensures its in
          rw (after ∙ ap (λ request. slice_set rows at (record row { request = request })) w.in-Some.is, ap (λ inside. inside.requests) w.self-inside-is ∙ w.in_ok-set-in-Some.ensures.ok)
          (kept-set_asking rows at row c.self.inside.requests w.in-Some.lo w.in-Some.hi its c.self.invariant)
      | in-None w ↦
          let after = rows_after c.self.inside.uses c.match-request.self-inside.uses c.set_request.new.self at row c.args.request (ap (λ inside. inside.uses) w.self-inside-is) c.set_request.ensures its in
          rw (after ∙ ap (λ request. slice_set rows at (record row { request = request })) w.in-None.is, ap (λ inside. inside.requests) w.self-inside-is ∙ w.withdraw.ensures)
          (kept-set_quiet rows at row c.self.inside.requests its c.self.invariant)
    ]
