use Rattle.std.proofs.Common.{◌++◌, ◌∷◌, decimal}
use Rattle.rows.proofs.RowHeads.{others_differ, worker_differs}
use Rattle.rows.proofs.Separators.{not_split}
use Rattle.rows.proofs.Spaces.{first_differs, Lacks-decimal}
use Rattle.rows.proofs.row_line.split_numbers.Goals as goal

pub returns-in_err-first-clause-none : goal.returns-in_err-first-clause-none
returns-in_err-first-clause-none c =
    rw c.from_residual.ensures (λ m n more small few. not_split 32 c.args.line.now (decimal m) (decimal n ++ 32 ∷ more) c.in_err-first.ensures.none)

pub returns-in_err-second-clause-none : goal.returns-in_err-second-clause-none
returns-in_err-second-clause-none c =
    let f = c.in_ok-first in
    rw c.from_residual-in_err-second.ensures (λ m n more small few. others_differ c.args.line.now f.first.now f.others.now f.ensures.parts f.ensures.first m n more small (not_split 32 f.others.now (decimal n) more c.in_err-second.ensures.none))

pub returns-in_err-worker-clause-none : goal.returns-in_err-worker-clause-none
returns-in_err-worker-clause-none c =
    let f = c.in_ok-first in
    rw c.from_residual-in_err-worker.ensures (λ m n more small few. worker_differs c.args.line.now f.first.now f.others.now f.ensures.parts f.ensures.first m n more small (c.in_err-worker.ensures.none m small))

pub returns-in_err-number-clause-none : goal.returns-in_err-number-clause-none
returns-in_err-number-clause-none c =
    let f = c.in_ok-first in
    let s = c.in_ok-second in
    rw c.from_residual-in_err-number.ensures (λ m n more small few. others_differ c.args.line.now f.first.now f.others.now f.ensures.parts f.ensures.first m n more small (first_differs f.others.now s.second.now s.rest.now (decimal n) more s.ensures.parts s.ensures.first (Lacks-decimal n few) (c.in_err-number.ensures.none n few)))
