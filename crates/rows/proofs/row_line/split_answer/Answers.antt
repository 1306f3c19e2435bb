use Rattle.std.proofs.Common.{◌++◌, ◌∷◌, codes}
use Rattle.rows.proofs.RowHeads.{front_absent, front_is}
use Rattle.rows.proofs.row_line.split_answer.Goals as goal

pub returns-in_err-call-clause-none : goal.returns-in_err-call-clause-none
returns-in_err-call-clause-none c =
    rw c.from_residual.ensures (λ name call answer is named. front_absent c.args.text.now c.in_err-call.ensures.none name call (codes "->" ++ 32 ∷ answer) is named)

pub returns-in_err-answer-clause-none : goal.returns-in_err-answer-clause-none
returns-in_err-answer-clause-none c =
    rw c.from_residual-in_err-answer.ensures (λ name call answer is named same.
    c.in_err-answer.ensures.none answer (front_is c.args.text.now c.in_ok-call.call.now c.in_ok-call.rest.now c.in_ok-call.ensures.parts c.in_ok-call.ensures.count name call (codes "->" ++ 32 ∷ answer) is named same).1)
