use Rattle.std.proofs.Common.{◌≡◌, ◌≢◌, ◌∷◌, [], refl, Option, None, Some}
use Rattle.std.specs.Prelude.{IfNone, IfErr}
use Rattle.rows.specs.declared.answer.Answer.{Answer}
use Rattle.rows.specs.declared.row_fault.RowFault.{RowFault}
use Rattle.rows.specs.declared.row_fault.RowFault.TheVariants.{NotARow}
use Rattle.rows.specs.AnswerParts.{or_no_row, IsAnswer, NoAnswer}
use Rattle.rows.specs.AnswerText.{answer_text}
use Rattle.rows.specs.Fits.{told, FitsTold}
use Rattle.rows.specs.Row.{rail_name}
use Rattle.rows.proofs.Options.{err_then}
use Rattle.rows.proofs.Parts.{no_answer}
use Rattle.rows.proofs.answer_reading.read_answer.Goals as goal

-- no answer was found
found_none : (r : Option Answer) (P Q : Type 0) → IfNone r P → (P → Q) → IfErr (or_no_row r) (λ fault. fault ≡ NotARow → Q)
found_none None P Q h f = λ same. f h
found_none (Some answer) P Q h f = tt

pub returns-in-None-clause-none : goal.returns-in-None-clause-none
returns-in-None-clause-none c =
    let board = c.args.board.now in
    let text = c.args.text.now in
    let kind = told c.args.call.now in
    rw c.found.ensures (found_none c.bare_answer.result (NoAnswer kind (text ∷ [])) ((answer : Answer) → FitsTold board kind answer → text ≢ answer_text (rail_name board) answer) c.bare_answer.ensures.none
    (λ (none : NoAnswer kind (text ∷ [])). no_answer board kind text (text ∷ []) refl c.in-None.ensures.none (none board)))

pub returns-in-Some-clause-none : goal.returns-in-Some-clause-none
returns-in-Some-clause-none c =
    let board = c.args.board.now in
    let kind = told c.args.call.now in
    let parts = c.in-Some.word.now ∷ c.in-Some.words.now ∷ [] in
    err_then c.worded_answer.result _ _ c.worded_answer.ensures.none (λ (fault : RowFault) (none : fault ≡ NotARow → (answer : Answer) → ¬ IsAnswer board kind answer parts) (same : fault ≡ NotARow).
    no_answer board kind c.args.text.now parts c.in-Some.ensures.parts c.in-Some.ensures.first (none same))
