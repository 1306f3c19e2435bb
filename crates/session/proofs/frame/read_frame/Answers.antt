use Rattle.std.proofs.Common.{◌≡◌, ◌∙◌, rules}
use Rattle.std.specs.Prelude.{is_none}
use Rattle.std.specs.Option.{option_copied}
use Rattle.std.proofs.lemmas.Result.{err_from_is_err_and}
use Rattle.session.proofs.Boards.{none_lent, frame_read, frame_left}
use Rattle.session.proofs.frame.read_frame.Goals as goal

pub returns-in_err-rest-clause-fault : goal.returns-in_err-rest-clause-fault
returns-in_err-rest-clause-fault c =
    let board = c.in_ok-board.board in
    let told : c.is_none.result ≡ is_none board.text = search rules in
    let none = told ∙ none_lent board.text in
    let exit = err_from_is_err_and c.from_residual-in_err-rest.result c.from_residual-in_err-rest.ensures.1 in
    rw (exit.1, exit.2) (frame_left c.args.bytes.now (option_copied board.text) board.rest.now board.number c.in_ok-board.ensures.board c.is_none.result none _ c.in_err-rest.ensures.fault)

pub returns-clause-frame : goal.returns-clause-frame
returns-clause-frame c =
    let board = c.in_ok-board.board in
    let told : c.is_none.result ≡ is_none board.text = search rules in
    let none = told ∙ none_lent board.text in
    frame_read c.args.bytes.now (option_copied board.text) board.rest.now board.number c.in_ok-board.ensures.board c.is_none.result none c.in_ok-rest.rest c.in_ok-rest.ensures.rest
