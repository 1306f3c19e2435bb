use Rattle.rows.proofs.CallFronts.{arity_cut, none_cut}
use Rattle.rows.proofs.row_line.split_call.Goals as goal

pub returns-in_err-verb-clause-none : goal.returns-in_err-verb-clause-none
returns-in_err-verb-clause-none c = rw c.from_residual.ensures (none_cut c.args.text.now c.in_err-verb.ensures.none)

pub returns-clause-count : goal.returns-clause-count
returns-clause-count c =
    let count = arity_cut c.args.text.now c.in_ok-verb.verb.now c.in_ok-verb.field-0-1.now c.in_ok-verb.ensures.parts c.in_ok-verb.ensures.first in
    rw (count, ← c.word_count.ensures) c.split_words.ensures.count

pub returns-clause-none : goal.returns-clause-none
returns-clause-none c =
    let count = arity_cut c.args.text.now c.in_ok-verb.verb.now c.in_ok-verb.field-0-1.now c.in_ok-verb.ensures.parts c.in_ok-verb.ensures.first in
    rw (count, ← c.word_count.ensures) c.split_words.ensures.none
