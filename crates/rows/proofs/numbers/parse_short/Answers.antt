use Rattle.std.proofs.Common.{arith, sym, ◌∙◌}
use Rattle.std.proofs.lemmas.Fmt.{decimal_injective}
use Rattle.rows.proofs.numbers.parse_short.Goals as goal

pub returns-then-n-gt65535-clause-none : goal.returns-then-n-gt65535-clause-none
returns-then-n-gt65535-clause-none c = λ n small same.
    let equal = decimal_injective c.in_ok-n.n n (omega arith) (omega arith) (sym c.in_ok-n.ensures.some ∙ same) in
    omega arith

pub returns-in_err-n-clause-none : goal.returns-in_err-n-clause-none
returns-in_err-n-clause-none c = rw c.from_residual.ensures (λ n small. c.in_err-n.ensures.none n (omega arith))
