use Rattle.std.proofs.Common.{ℕ, ◌≢◌, ◌≡◌, ◌^◌, ◌<◌, [], ◌∷◌, ◌++◌, decimal, rules}
use Rattle.rows.specs.Words.{spaced}
use Rattle.session.proofs.CallLines.{after_name}
use Rattle.rows.proofs.Options.{none_then}
use Rattle.session.proofs.calls.parse_set.Goals as goal

pub returns-in_err-words-3-clause-none : goal.returns-in_err-words-3-clause-none
returns-in_err-words-3-clause-none c =
    rw c.from_residual-in_err-words-3.ensures (λ lo hi small few same. c.in_err-words-3.ensures.none (decimal lo ++ 32 ∷ decimal hi) (after_name c.args.line.now c.args.name.now c.in_ok-words.words.now c.in_ok-words-2.words.now (32 ∷ (decimal lo ++ 32 ∷ decimal hi)) (search rules) (search rules) same))

pub returns-clause-none : goal.returns-clause-none
returns-clause-none c =
    none_then c.parse_number_pair.result _ _ c.parse_number_pair.ensures.none (λ (none : (m n : ℕ) → m < 2 ^ 32 → n < 2 ^ 32 → c.in_ok-words-3.words.now ≢ spaced (decimal m ∷ decimal n ∷ [])). λ lo hi small few same.
    let after : c.in_ok-words-2.words.now ≡ 32 ∷ (decimal lo ++ 32 ∷ decimal hi) = after_name c.args.line.now c.args.name.now c.in_ok-words.words.now c.in_ok-words-2.words.now (32 ∷ (decimal lo ++ 32 ∷ decimal hi)) (search rules) (search rules) same in
    let space : c.in_ok-words-2.words.now ≡ 32 ∷ c.in_ok-words-3.words.now = search rules in
    none lo hi small few cc)
