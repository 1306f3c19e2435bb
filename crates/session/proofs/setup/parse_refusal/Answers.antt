use Rattle.std.proofs.Common.{◌≡◌, ◌∷◌, ◌++◌, decimal, arith, rules}
use Rattle.session.proofs.SetupLines.{numbers_same}
use Rattle.session.proofs.setup.parse_refusal.Goals as goal

pub returns-then-worker-gt16-clause-none : goal.returns-then-worker-gt16-clause-none
returns-then-worker-gt16-clause-none c = λ worker update ranges same.
    let words : decimal c.in_ok-worker.worker ++ 32 ∷ decimal c.in_ok-worker.update ≡ decimal worker ++ 32 ∷ decimal update = search rules in
    let parts = numbers_same c.in_ok-worker.worker c.in_ok-worker.update worker update (search rules) (search rules) (omega arith) (omega arith) words in
    grind (arith, parts, c.then-worker-gt16.either)
