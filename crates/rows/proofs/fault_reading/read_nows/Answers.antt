use Rattle.std.proofs.Common.{◌<◌, length, sym, ◌∙◌, rules}
use Rattle.rows.specs.AnswerText.{now_text}
use Rattle.rows.specs.Fits.{FitsNow}
use Rattle.rows.specs.Row.{rail_name}
use Rattle.rows.proofs.FaultLines.{now_cut, nows_tail}
use Rattle.rows.proofs.Walks.{walk_more, walk_none}
use Rattle.rows.proofs.fault_reading.read_nows.Goals as goal

pub returns-in_default-clause-none : goal.returns-in_default-clause-none
returns-in_default-clause-none c =
    let some : 0 < length c.rails.left.now = search rules in
    let board = c.args.board.now in
    λ same. walk_none (now_text (rail_name board)) (FitsNow board) c.args.text.now c.rails.list c.rails.left.now c.rails.invariant some
    (λ now more fits others. c.in_default.ensures.none now _ fits (nows_tail (rail_name board) more))

pub rails-preserved : goal.rails-preserved
rails-preserved c =
    let some : 0 < length c.rails.left.now = search rules in
    let read = c.in-Some.ensures.some in
    let board = c.args.board.now in
    rw c.in_ok-push.ensures.ok
    (walk_more (now_text (rail_name board)) (FitsNow board) c.args.text.now c.rails.list c.rails.left.now c.rails.invariant c.in-Some.now c.in-Some.rest.now read.0 read.1 some
    (λ now more fits others same. now_cut board c.requires.sound.names c.in-Some.now now c.in-Some.rest.now _ read.0 fits c.in-Some.ensures.tail (nows_tail (rail_name board) more) (sym read.1 ∙ same)))
