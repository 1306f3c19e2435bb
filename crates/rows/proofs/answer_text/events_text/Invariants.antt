use Rattle.std.proofs.Common.{◌≡◌, ◌++◌, take, flat_map, string_bytes}
use Rattle.rows.specs.AnswerText.{next_event_text}
use Rattle.rows.proofs.answer_text.events_text.Given as goal

-- the text so far is what it was, and the events so far behind it
abbrev pub invariant-loop-event : goal.invariant-loop-event
invariant-loop-event l =
    string_bytes l.text ≡ string_bytes l.initial.text ++ flat_map next_event_text (take l.event-index l.list)
