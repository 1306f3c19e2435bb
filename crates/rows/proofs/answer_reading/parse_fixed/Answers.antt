use Rattle.std.proofs.Common.{arith, sym, ◌∙◌}
use Rattle.std.proofs.lemmas.Fmt.{decimal_injective}
use Rattle.rows.proofs.answer_reading.parse_fixed.Goals as goal

pub returns-else-n-wanted-clause-none : goal.returns-else-n-wanted-clause-none
returns-else-n-wanted-clause-none c = λ same.
    let equal = decimal_injective c.in_ok-n.n c.args.wanted (omega arith) (omega arith) (sym c.in_ok-n.ensures.some ∙ same) in
    c.if-n-wanted.false equal
