use Rattle.std.proofs.Common.{◌≡◌, ◌-◌, ◌∷◌, ◌++◌, [], ℕ, List, refl, ap, ◌∙◌, subst, arith, length, remove}
use Rattle.std.proofs.lemmas.List.{append-nil, length-append}
use Rattle.std.proofs.lemmas.List.Edits.{remove-append_right}
use Rattle.use_counts.specs.Book.{Book}
use Rattle.use_counts.specs.declared.handle_row.HandleRow.{HandleRow}
use Rattle.rail_ops.specs.Sight.{shown_by}
use Rattle.rail_ops.specs.Inside.Raised.{ChangesBook}
use Rattle.rail_ops.proofs.opening.take_last.Goals as goal

-- without its last element
without_last : (rows : List HandleRow) (last : HandleRow) → remove (rows ++ last ∷ []) (length rows) ≡ rows
without_last rows last =
    let from : (n : ℕ) → n ≡ 0 → remove (last ∷ []) n ≡ [] = λ n is. ap (remove (last ∷ [])) is in
    remove-append_right rows (last ∷ []) (length rows) (length rows) refl (omega arith)
    ∙ ap (λ (more : List HandleRow). rows ++ more) (from (length rows - length rows) (omega arith))
    ∙ append-nil rows

pub returns-clause-book : goal.returns-clause-book
returns-clause-book g c rows last is =
    let first = shown_by g.R.Rails.board g.R.Rails.rails g.R.Rails.bits g.R.Rails.states c.args.rails.now in
    let after = shown_by g.R.Rails.board g.R.Rails.rails g.R.Rails.bits g.R.Rails.states c.take_out.new.rails in
    let seen = c.rows.ensures.rows ∙ ap (λ (b : Book). b.rows) c.state.ensures ∙ is in
    let place : length c.rows.result.now - 1 ≡ length rows = omega (arith, ap (λ (rs : List HandleRow). length rs) seen, length-append rows (last ∷ [])) in
    let gone : remove (g.R.Rails.states c.args.rails.now c.args.r.0).rows (length c.rows.result.now - 1) ≡ rows =
    ap (λ (rs : List HandleRow). remove rs (length c.rows.result.now - 1)) is ∙ ap (remove (rows ++ last ∷ [])) place ∙ without_last rows last in
    subst (λ (rs : List HandleRow). ChangesBook c.args.r.0 (record (first.books c.args.r.0) { rows = rs }) first after) gone c.take_out.ensures.book
