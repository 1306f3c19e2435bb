use Rattle.std.proofs.Common.{decimal}
use Rattle.rows.proofs.Separators.{not_split}
use Rattle.rows.proofs.Spaces.{first_differs, second_differs, Lacks-decimal}
use Rattle.rows.proofs.answer_reading.parse_set.Goals as goal

pub returns-in_err-first-clause-none : goal.returns-in_err-first-clause-none
returns-in_err-first-clause-none c =
    rw c.from_residual.ensures (λ m n small few. not_split 32 c.args.words.now (decimal m) (decimal n) c.in_err-first.ensures.none)

pub returns-in_err-uv-clause-none : goal.returns-in_err-uv-clause-none
returns-in_err-uv-clause-none c =
    let f = c.in_ok-first in
    rw c.from_residual-in_err-uv.ensures (λ m n small few. first_differs c.args.words.now f.first.now f.second.now (decimal m) (decimal n) f.ensures.parts f.ensures.first (Lacks-decimal m small) (c.in_err-uv.ensures.none m small))

pub returns-in_err-delay-clause-none : goal.returns-in_err-delay-clause-none
returns-in_err-delay-clause-none c =
    let f = c.in_ok-first in
    rw c.from_residual-in_err-delay.ensures (λ m n small few. second_differs c.args.words.now f.first.now f.second.now (decimal m) (decimal n) f.ensures.parts f.ensures.first (Lacks-decimal m small) (c.in_err-delay.ensures.none n few))
