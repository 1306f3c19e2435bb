use Rattle.std.proofs.Common.{◌≡◌, ◌∷◌, ◌++◌, [], decimal, ap, sym, ◌∙◌, drop}
use Rattle.rows.specs.Words.{hex_text, spaced}
use Rattle.rows.proofs.Separators.{not_split}
use Rattle.rows.proofs.Spaces.{first_differs, second_differs, Lacks-decimal}
use Rattle.session.proofs.setup.parse_register.Goals as goal

pub returns-in_err-chip-clause-none : goal.returns-in_err-chip-clause-none
returns-in_err-chip-clause-none c =
    rw c.from_residual-in_err-chip.ensures (λ chip reg value ranges same.
    let words : c.in_ok-words.words.now ≡ decimal chip ++ 32 ∷ spaced (hex_text reg ∷ hex_text value ∷ []) = ap (drop 5) (sym c.in_ok-words.ensures.some ∙ same) in
    not_split 32 c.in_ok-words.words.now (decimal chip) (spaced (hex_text reg ∷ hex_text value ∷ [])) c.in_err-chip.ensures.none words)

pub returns-in_err-chip-2-clause-none : goal.returns-in_err-chip-2-clause-none
returns-in_err-chip-2-clause-none c =
    rw c.from_residual-in_err-chip-2.ensures (λ chip reg value ranges same.
    let words : c.in_ok-words.words.now ≡ decimal chip ++ 32 ∷ spaced (hex_text reg ∷ hex_text value ∷ []) = ap (drop 5) (sym c.in_ok-words.ensures.some ∙ same) in
    first_differs c.in_ok-words.words.now c.in_ok-chip.chip.now c.in_ok-chip.bytes.now (decimal chip) (spaced (hex_text reg ∷ hex_text value ∷ [])) c.in_ok-chip.ensures.parts c.in_ok-chip.ensures.first (Lacks-decimal chip ranges.0) (c.in_err-chip-2.ensures.none chip ranges.0) words)

pub returns-in_err-reg-clause-none : goal.returns-in_err-reg-clause-none
returns-in_err-reg-clause-none c =
    rw c.from_residual-in_err-reg.ensures (λ chip reg value ranges same.
    let words : c.in_ok-words.words.now ≡ decimal chip ++ 32 ∷ spaced (hex_text reg ∷ hex_text value ∷ []) = ap (drop 5) (sym c.in_ok-words.ensures.some ∙ same) in
    second_differs c.in_ok-words.words.now c.in_ok-chip.chip.now c.in_ok-chip.bytes.now (decimal chip) (spaced (hex_text reg ∷ hex_text value ∷ [])) c.in_ok-chip.ensures.parts c.in_ok-chip.ensures.first (Lacks-decimal chip ranges.0) (c.in_err-reg.ensures.none reg value ranges.1 ranges.2) words)

pub returns-in_err-words-clause-none : goal.returns-in_err-words-clause-none
returns-in_err-words-clause-none c = rw c.from_residual.ensures (λ chip reg value ranges. c.in_err-words.ensures.none (spaced (decimal chip ∷ hex_text reg ∷ hex_text value ∷ [])))
