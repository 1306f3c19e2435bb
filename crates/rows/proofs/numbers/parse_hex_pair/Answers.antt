use Rattle.rows.specs.Words.{hex_text}
use Rattle.rows.proofs.Separators.{not_split}
use Rattle.rows.proofs.Spaces.{first_differs, second_differs, Lacks-hex_text}
use Rattle.rows.proofs.numbers.parse_hex_pair.Goals as goal

pub returns-in_err-first-clause-none : goal.returns-in_err-first-clause-none
returns-in_err-first-clause-none c =
    rw c.from_residual.ensures (λ m n small few. not_split 32 c.args.words.now (hex_text m) (hex_text n) c.in_err-first.ensures.none)

pub returns-in_err-first-2-clause-none : goal.returns-in_err-first-2-clause-none
returns-in_err-first-2-clause-none c =
    rw c.from_residual-in_err-first-2.ensures (λ m n small few. first_differs c.args.words.now c.in_ok-first.first.now c.in_ok-first.second.now (hex_text m) (hex_text n) c.in_ok-first.ensures.parts c.in_ok-first.ensures.first (Lacks-hex_text m) (c.in_err-first-2.ensures.none m small))

pub returns-in_err-second-clause-none : goal.returns-in_err-second-clause-none
returns-in_err-second-clause-none c =
    rw c.from_residual-in_err-second.ensures (λ m n small few. second_differs c.args.words.now c.in_ok-first.first.now c.in_ok-first.second.now (hex_text m) (hex_text n) c.in_ok-first.ensures.parts c.in_ok-first.ensures.first (Lacks-hex_text m) (c.in_err-second.ensures.none n few))
