use Rattle.rows.proofs.BoardCalls.{on_none, on_nothing}
use Rattle.rows.proofs.row_line.read_call.Goals as goal

pub returns-in_err-rail-in-Open-clause-none : goal.returns-in_err-rail-in-Open-clause-none
returns-in_err-rail-in-Open-clause-none c =
    let read = rw c.in-Open.is at c.in-Some.ensures.some.0 in
    rw c.from_residual.ensures (on_none c.args.board.now c.requires.sound.names c.args.text.now c.in-Some.word.now c.in-Open.handle c.in-Open.rail c.in-Open.exclusive read c.in_err-rail-in-Open.ensures.none)

pub returns-in-None-clause-none : goal.returns-in-None-clause-none
returns-in-None-clause-none c = on_nothing c.args.board.now c.requires.sound.names c.args.text.now c.in-None.ensures.none
