use Rattle.std.proofs.Common.{[], ◌∷◌, ◌++◌, refl, ap, ◌∙◌, arith}
use Rattle.rows.specs.Reading.{NoCall}
use Rattle.rows.proofs.CallWords.{no_line, no_long_line}
use Rattle.rows.proofs.Options.{none_then}
use Rattle.rows.proofs.call_reading.read_words.Goals as goal

pub returns-in_err-call-clause-none : goal.returns-in_err-call-clause-none
returns-in_err-call-clause-none c =
    rw c.from_residual.ensures (no_line c.args.line.now (c.args.line.now ∷ []) refl (c.in_default.ensures.none, tt) (omega arith) c.in_err-call.ensures.none)

pub returns-in_err-call-2-clause-none : goal.returns-in_err-call-2-clause-none
returns-in_err-call-2-clause-none c =
    rw c.from_residual-in_err-call-2.ensures (no_line c.args.line.now (c.in-Some.verb.now ∷ c.in-Some.rest.now ∷ []) c.in-Some.ensures.parts (c.in-Some.ensures.first, (c.in_default-split_first.ensures.none, tt)) (omega arith) c.in_err-call-2.ensures.none)

pub returns-in_err-call-in-Some-split_first-2-clause-none : goal.returns-in_err-call-in-Some-split_first-2-clause-none
returns-in_err-call-in-Some-split_first-2-clause-none c =
    let name = c.in-Some-split_first.name.now in
    let inner = ap (λ rest. name ++ 32 ∷ rest) c.in-Some-split_first-2.ensures.parts in
    let whole = ap (λ rest. c.in-Some.verb.now ++ 32 ∷ rest) (c.in-Some-split_first.ensures.parts ∙ inner) in
    rw c.from_residual-in_err-call-in-Some-split_first-2.ensures (no_long_line c.args.line.now (c.in-Some.verb.now ∷ name ∷ c.in-Some-split_first-2.low.now ∷ c.in-Some-split_first-2.high.now ∷ []) (c.in-Some.ensures.parts ∙ whole) (c.in-Some.ensures.first, (c.in-Some-split_first.ensures.first, (c.in-Some-split_first-2.ensures.first, tt))) refl c.in_err-call-in-Some-split_first-2.ensures.none)

pub returns-in-None-clause-none : goal.returns-in-None-clause-none
returns-in-None-clause-none c =
    let words = c.in-Some.verb.now ∷ c.in-Some-split_first.name.now ∷ c.in-Some-split_first.rest.now ∷ [] in
    let whole = ap (λ rest. c.in-Some.verb.now ++ 32 ∷ rest) c.in-Some-split_first.ensures.parts in
    none_then c.middle_call.result _ _ c.middle_call.ensures.none (λ (none : NoCall words). no_line c.args.line.now words (c.in-Some.ensures.parts ∙ whole) (c.in-Some.ensures.first, (c.in-Some-split_first.ensures.first, (c.in-None.ensures.none, tt))) (omega arith) none)
