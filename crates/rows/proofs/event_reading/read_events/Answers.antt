use Rattle.std.proofs.Common.{length, arith, sym, ◌∙◌}
use Rattle.std.proofs.lemmas.Fmt.{decimal_injective}
use Rattle.rows.proofs.EventLines.{count_told, events_same}
use Rattle.rows.proofs.event_reading.read_events.Goals as goal

pub returns-in_default-clause-none : goal.returns-in_default-clause-none
returns-in_default-clause-none c = λ is list fits few same.
    let cut = c.take_until.ensures in
    c.in_default.ensures.none (length list) (omega arith) (count_told c.args.words.now c.take_until.result.0.now c.take_until.result.1.now cut.parts cut.first cut.tail list few same).0

pub returns-then-count-gt64-clause-none : goal.returns-then-count-gt64-clause-none
returns-then-count-gt64-clause-none c = λ is list fits few same.
    let cut = c.take_until.ensures in
    let told = count_told c.args.words.now c.take_until.result.0.now c.take_until.result.1.now cut.parts cut.first cut.tail list few same in
    let equal = decimal_injective c.in-Some.count (length list) (omega arith) (omega arith) (sym c.in-Some.ensures.some ∙ told.0) in
    omega arith

pub returns-in-Err-clause-none : goal.returns-in-Err-clause-none
returns-in-Err-clause-none c = λ is list fits few same.
    let cut = c.take_until.ensures in
    let told = count_told c.args.words.now c.take_until.result.0.now c.take_until.result.1.now cut.parts cut.first cut.tail list few same in
    c.in-Err.ensures.none is list fits told.1

pub returns-then-len-count-clause-none : goal.returns-then-len-count-clause-none
returns-then-len-count-clause-none c = λ is list fits few same.
    let cut = c.take_until.ensures in
    let told = count_told c.args.words.now c.take_until.result.0.now c.take_until.result.1.now cut.parts cut.first cut.tail list few same in
    let equal = decimal_injective c.in-Some.count (length list) (omega arith) (omega arith) (sym c.in-Some.ensures.some ∙ told.0) in
    let counts = events_same c.in-Ok.list list c.in-Ok.ensures.fits fits (sym c.in-Ok.ensures.lines ∙ told.1) in
    c.if-len-count.true (omega (arith, counts))
