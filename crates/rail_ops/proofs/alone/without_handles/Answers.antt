use Rattle.std.proofs.Common.{◌≡◌, ℕ, sym, ap, subst, ◌∙◌, length, List, ◌++◌, ◌∷◌, [], false}
use Rattle.std.specs.Prelude.{slice_index, slice_index_or}
use Rattle.use_counts.specs.Book.{Book}
use Rattle.rail_ops.specs.Inside.Alone.{AreBooks, blank}
use Rattle.rail_ops.proofs.AloneMade.{blank_behind}
use Rattle.rail_ops.proofs.alone.without_handles.Goals as goal

pub loop-list-preserved : goal.loop-list-preserved
loop-list-preserved c =
    let at : c.len-i.result ≡ length c.loop-list.yielded = c.len-i.ensures ∙ c.loop-list.states.ok.0 ∙ c.loop-list.invariant.as_many in
    let made : ℕ → Book = λ i. record { rows = []; held = slice_index_or c.args.holds.now i false; votes = slice_index c.args.votes.now i; events = c.in-Some.list; suspended = c.args.suspended } in
    subst (λ (books : List Book). AreBooks (length (c.loop-list.yielded ++ c.in-Some.list ∷ [])) (blank c.args.holds.now c.args.votes.now (c.loop-list.yielded ++ c.in-Some.list ∷ []) c.args.suspended) books)
    (sym c.in_ok-push.ensures.items)
    (blank_behind c.args.holds.now c.args.votes.now c.loop-list.yielded c.in-Some.list c.args.suspended c.loop-list.states.items c.in_ok-new.field-0 c.loop-list.invariant (c.in_ok-new.ensures ∙ ap made at))
