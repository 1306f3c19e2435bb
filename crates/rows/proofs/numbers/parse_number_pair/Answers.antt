use Rattle.std.proofs.Common.{decimal}
use Rattle.rows.proofs.Separators.{not_split}
use Rattle.rows.proofs.Spaces.{first_differs, second_differs, Lacks-decimal}
use Rattle.rows.proofs.numbers.parse_number_pair.Goals as goal

pub returns-in_err-first-clause-none : goal.returns-in_err-first-clause-none
returns-in_err-first-clause-none c =
    rw c.from_residual.ensures (λ m n small few. not_split 32 c.args.words.now (decimal m) (decimal n) c.in_err-first.ensures.none)

pub returns-in_err-first-2-clause-none : goal.returns-in_err-first-2-clause-none
returns-in_err-first-2-clause-none c =
    rw c.from_residual-in_err-first-2.ensures (λ m n small few. first_differs c.args.words.now c.in_ok-first.first.now c.in_ok-first.second.now (decimal m) (decimal n) c.in_ok-first.ensures.parts c.in_ok-first.ensures.first (Lacks-decimal m small) (c.in_err-first-2.ensures.none m small))

pub returns-in_err-second-clause-none : goal.returns-in_err-second-clause-none
returns-in_err-second-clause-none c =
    rw c.from_residual-in_err-second.ensures (λ m n small few. second_differs c.args.words.now c.in_ok-first.first.now c.in_ok-first.second.now (decimal m) (decimal n) c.in_ok-first.ensures.parts c.in_ok-first.ensures.first (Lacks-decimal m small) (c.in_err-second.ensures.none n few))
