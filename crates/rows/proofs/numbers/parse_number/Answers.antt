use Rattle.std.proofs.Common.{◌≡◌, arith, rules}
use Rattle.rows.proofs.Numerals.{not_plain, not_utf8, number_some, number_none}
use Rattle.rows.proofs.numbers.parse_number.Goals as goal

pub returns-then-not-is_plain-clause-none : goal.returns-then-not-is_plain-clause-none
returns-then-not-is_plain-clause-none c = λ n small. not_plain c.args.word.now (search rules) n (omega arith)

pub returns-in_err-text-clause-none : goal.returns-in_err-text-clause-none
returns-in_err-text-clause-none c = rw c.from_residual.ensures (λ n small. not_utf8 c.args.word.now (search rules) n (omega arith))

pub returns-clause-some : goal.returns-clause-some
returns-clause-some c =
    let same : c.in_ok-text.text.now ≡ c.args.word.now = search rules in
    rw c.ok-2.ensures.value (number_some 32 (λ n small. omega arith) c.args.word.now c.parse.result (search rules) (rw same at c.parse.ensures.value.0))

pub returns-clause-none : goal.returns-clause-none
returns-clause-none c =
    let same : c.in_ok-text.text.now ≡ c.args.word.now = search rules in
    rw c.ok-2.ensures.value (number_none 32 (λ n small. omega arith) c.args.word.now c.parse.result (rw same at c.parse.ensures.value.0))
