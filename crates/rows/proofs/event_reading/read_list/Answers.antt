use Rattle.std.proofs.Common.{◌<◌, length, sym, ◌∙◌, rules}
use Rattle.rows.specs.AnswerText.{next_event_text}
use Rattle.rows.specs.Fits.{FitsEvent}
use Rattle.rows.proofs.EventLines.{event_cut, events_tail}
use Rattle.rows.proofs.Walks.{walk_more, walk_none}
use Rattle.rows.proofs.event_reading.read_list.Goals as goal

pub returns-in_default-clause-none : goal.returns-in_default-clause-none
returns-in_default-clause-none c =
    let some : 0 < length c.events.left.now = search rules in
    λ same. walk_none next_event_text FitsEvent c.args.text.now c.events.list c.events.left.now c.events.invariant some
    (λ event more fits others. c.in_default.ensures.none event _ fits (events_tail more))

pub events-preserved : goal.events-preserved
events-preserved c =
    let some : 0 < length c.events.left.now = search rules in
    let read = c.in-Some.ensures.some in
    rw c.in_ok-push.ensures.ok
    (walk_more next_event_text FitsEvent c.args.text.now c.events.list c.events.left.now c.events.invariant c.in-Some.event c.in-Some.rest.now read.0 read.1 some
    (λ event more fits others same. event_cut c.in-Some.event event c.in-Some.rest.now _ read.0 fits c.in-Some.ensures.tail (events_tail more) (sym read.1 ∙ same)))
