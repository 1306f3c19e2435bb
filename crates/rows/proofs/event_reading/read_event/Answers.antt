use Rattle.std.proofs.Common.{ap, drop, sym, ◌∙◌}
use Rattle.rows.proofs.EventLines.{event_told}
use Rattle.rows.proofs.event_reading.read_event.Goals as goal

pub returns-in_err-event-clause-none : goal.returns-in_err-event-clause-none
returns-in_err-event-clause-none c =
    let cut = c.take_until.ensures in
    rw c.from_residual-in_err-event.ensures (λ event more fits tail same.
    let words = ap (drop 2) (sym c.in_ok-words.ensures.some ∙ same) in
    c.in_err-event.ensures.none event fits (event_told c.take_until.result.0.now c.take_until.result.1.now cut.first cut.tail event more fits tail (sym cut.parts ∙ words)).0)
