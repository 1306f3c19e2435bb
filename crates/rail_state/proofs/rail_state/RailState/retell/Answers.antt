use Rattle.std.proofs.Common.{◌≡◌, ◌+◌, ◌-◌, ◌∷◌, ◌++◌, [], List, sym, ap, ◌∙◌, arith, length, slice_set}
use Rattle.std.proofs.lemmas.List.{length-append, set_at}
use Rattle.board.specs.declared.event.Event.{Event}
use Rattle.use_counts.specs.Book.{Book}
use Rattle.rail_state.proofs.rail_state.RailState.retell.Goals as goal

pub returns-then-told-gt0 : goal.returns-then-told-gt0
returns-then-told-gt0 c events last is =
    let told : c.self.inside.events ≡ events ++ last ∷ [] = ap (λ (book : Book). book.events) c.self.view_is ∙ is in
    let place : length events ≡ c.len-told.result - 1 = omega (arith, c.len-told.ensures, ap (λ (es : List Event). length es) told, length-append events (last ∷ [])) in
    let put = c.set.ensures ∙ ap (λ (es : List Event). slice_set es (c.len-told.result - 1) c.args.event) told ∙ set_at events last [] c.args.event (c.len-told.result - 1) place in
    ap (λ (book : Book). record book { events = c.set.new.self }) c.self.view_is ∙ ap (λ (es : List Event). record c.args.self.now { events = es }) put
