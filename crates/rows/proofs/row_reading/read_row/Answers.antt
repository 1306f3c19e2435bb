use Rattle.std.proofs.Common.{sym, ◌∙◌, subst}
use Rattle.rows.specs.AnswerText.{answer_text}
use Rattle.rows.specs.Fits.{FitsTold}
use Rattle.rows.specs.Row.{rail_name}
use Rattle.rows.proofs.RowLines.{answer_same, kind_same, row_cut, row_is_head}
use Rattle.rows.proofs.row_reading.read_row.Goals as goal

pub returns-in_default-read_head-clause-not_a_row : goal.returns-in_default-read_head-clause-not_a_row
returns-in_default-read_head-clause-not_a_row c = λ is row fits same.
    let board = c.args.board.now in
    let names = c.requires.sound.names in
    let s = c.in-Some in
    let cut = row_cut board names s.line.now s.kept.now s.ensures.first row fits (same ∙ s.ensures.parts) in
    c.in_default-read_head.ensures.none row.worker row.line row.call (answer_text (rail_name board) row.answer) (row_is_head board names s.line.now row fits cut.0)

pub returns-in-Err-clause-not_a_row : goal.returns-in-Err-clause-not_a_row
returns-in-Err-clause-not_a_row c = λ is row fits same.
    let board = c.args.board.now in
    let names = c.requires.sound.names in
    let s = c.in-Some in
    let h = c.in-Some-read_head.head in
    let cut = row_cut board names s.line.now s.kept.now s.ensures.first row fits (same ∙ s.ensures.parts) in
    let own = row_is_head board names s.line.now row fits cut.0 in
    let read = c.in-Some-read_head.ensures.some in
    let kind = kind_same board names s.line.now h.worker h.number h.call h.answer.now read row.worker row.line row.call (answer_text (rail_name board) row.answer) own in
    let text = answer_same board names s.line.now h.worker h.number h.call h.answer.now read row.worker row.line row.call (answer_text (rail_name board) row.answer) own in
    c.in-Err.ensures.none is row.answer (subst (λ k. FitsTold board k row.answer) (sym kind) fits.answer) text

pub returns-in-Err-read_writes-clause-not_a_row : goal.returns-in-Err-read_writes-clause-not_a_row
returns-in-Err-read_writes-clause-not_a_row c = λ is row fits same.
    let s = c.in-Some in
    let cut = row_cut c.args.board.now c.requires.sound.names s.line.now s.kept.now s.ensures.first row fits (same ∙ s.ensures.parts) in
    c.in-Err-read_writes.ensures.none is row.writes fits.writes cut.1
