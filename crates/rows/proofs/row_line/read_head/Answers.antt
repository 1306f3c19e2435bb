use Rattle.rows.proofs.RowHeads.{no_answer, no_call}
use Rattle.rows.proofs.row_line.read_head.Goals as goal

pub returns-in_err-worker-clause-none : goal.returns-in_err-worker-clause-none
returns-in_err-worker-clause-none c =
    rw c.from_residual.ensures (λ w n call answer head. c.in_err-worker.ensures.none w n _ head.small_worker head.small_number head.spelled)

pub returns-in_err-call-clause-none : goal.returns-in_err-call-clause-none
returns-in_err-call-clause-none c =
    let f = c.in_ok-worker in
    rw c.from_residual-in_err-call.ensures (no_answer c.args.board.now c.requires.sound.names c.args.line.now f.worker f.number f.rest.now f.ensures.fits.0 f.ensures.fits.1 f.ensures.some c.in_err-call.ensures.none)

pub returns-in-None-clause-none : goal.returns-in-None-clause-none
returns-in-None-clause-none c =
    let f = c.in_ok-worker in
    no_call c.args.board.now c.requires.sound.names c.args.line.now f.worker f.number f.rest.now f.ensures.fits.0 f.ensures.fits.1 f.ensures.some c.in_ok-call.call.now c.in_ok-call.answer.now c.in_ok-call.ensures.parts c.in_ok-call.ensures.count c.in-None.ensures.none
