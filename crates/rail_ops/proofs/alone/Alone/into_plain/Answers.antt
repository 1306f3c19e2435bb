use Rattle.std.proofs.Common.{map, ap, ◌∙◌, arith}
use Rattle.std.proofs.lemmas.List.{get_or_read}
use Rattle.use_counts.specs.Book.{Book}
use Rattle.rail_ops.specs.Inside.Alone.{handles_in, no_book}
use Rattle.rail_ops.proofs.AloneOne.{plain_is}
use Rattle.rail_ops.proofs.alone.Alone.into_plain.Goals as goal

pub returns : goal.returns
returns c plain inv hold shows same =
    let s = c.args.self in
    let fits = c.requires.fits in
    let first = get_or_read s.states.items 0 c.index.result.now (omega (arith, fits.as_many, fits.valid.sound.some)) c.index.ensures no_book in
    plain_is s.board.now s.regs s.states.items fits plain inv hold shows same c.in_ok-handles.handles c.in_ok-holds.holds c.is_suspended-suspended.result c.in_ok-events.events
    (c.in_ok-handles.ensures ∙ ap handles_in c.as_slice.ensures.value)
    (c.in_ok-holds.ensures ∙ ap (map (λ (b : Book). b.held)) c.as_slice-2.ensures.value)
    (c.is_suspended-suspended.ensures ∙ ap (λ (b : Book). b.suspended) first)
    (c.in_ok-events.ensures ∙ ap (map (λ (b : Book). b.events)) c.as_slice-3.ensures.value)
