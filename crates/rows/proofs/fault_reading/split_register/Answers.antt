use Rattle.std.proofs.Common.{◌++◌, ◌∷◌, decimal, arith}
use Rattle.rows.specs.Words.{hex_text}
use Rattle.rows.proofs.Separators.{not_split}
use Rattle.rows.proofs.Spaces.{first_differs, second_differs, Lacks-decimal, Lacks-hex_text}
use Rattle.rows.proofs.fault_reading.split_register.Goals as goal

pub returns-in_err-first-clause-none : goal.returns-in_err-first-clause-none
returns-in_err-first-clause-none c =
    rw c.from_residual.ensures (λ m n more small few. not_split 32 c.args.words.now (decimal m) (hex_text n ++ 32 ∷ more) c.in_err-first.ensures.none)

pub returns-in_err-second-clause-none : goal.returns-in_err-second-clause-none
returns-in_err-second-clause-none c =
    let f = c.in_ok-first in
    rw c.from_residual-in_err-second.ensures (λ m n more small few. second_differs c.args.words.now f.first.now f.others.now (decimal m) (hex_text n ++ 32 ∷ more) f.ensures.parts f.ensures.first (Lacks-decimal m (omega arith)) (not_split 32 f.others.now (hex_text n) more c.in_err-second.ensures.none))

pub returns-in_err-chip-clause-none : goal.returns-in_err-chip-clause-none
returns-in_err-chip-clause-none c =
    let f = c.in_ok-first in
    rw c.from_residual-in_err-chip.ensures (λ m n more small few. first_differs c.args.words.now f.first.now f.others.now (decimal m) (hex_text n ++ 32 ∷ more) f.ensures.parts f.ensures.first (Lacks-decimal m (omega arith)) (c.in_err-chip.ensures.none m small))

pub returns-in_err-reg-clause-none : goal.returns-in_err-reg-clause-none
returns-in_err-reg-clause-none c =
    let f = c.in_ok-first in
    let s = c.in_ok-second in
    rw c.from_residual-in_err-reg.ensures (λ m n more small few. second_differs c.args.words.now f.first.now f.others.now (decimal m) (hex_text n ++ 32 ∷ more) f.ensures.parts f.ensures.first (Lacks-decimal m (omega arith)) (first_differs f.others.now s.second.now s.rest.now (hex_text n) more s.ensures.parts s.ensures.first (Lacks-hex_text n) (c.in_err-reg.ensures.none n few)))
