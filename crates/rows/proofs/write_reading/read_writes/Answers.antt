use Rattle.std.proofs.Common.{◌<◌, length, sym, ◌∙◌, rules}
use Rattle.rows.specs.Fits.{FitsWrite}
use Rattle.rows.specs.Row.{write_text}
use Rattle.rows.proofs.Walks.{walk_more, walk_none}
use Rattle.rows.proofs.WriteLines.{write_cut}
use Rattle.rows.proofs.write_reading.read_writes.Goals as goal

pub returns-in_default-clause-none : goal.returns-in_default-clause-none
returns-in_default-clause-none c =
    let some : 0 < length c.lines.left.now = search rules in
    λ same. walk_none write_text (FitsWrite c.args.board.now) c.args.text.now c.lines.writes c.lines.left.now c.lines.invariant some
    (λ write more fits others. c.in_default.ensures.none write _ fits)

pub lines-preserved : goal.lines-preserved
lines-preserved c =
    let some : 0 < length c.lines.left.now = search rules in
    let read = c.in-Some.ensures.some in
    rw c.in_ok-push.ensures.ok
    (walk_more write_text (FitsWrite c.args.board.now) c.args.text.now c.lines.writes c.lines.left.now c.lines.invariant c.in-Some.write c.in-Some.rest.now read.0 read.1 some
    (λ write more fits others same. write_cut c.args.board.now c.in-Some.write write c.in-Some.rest.now _ read.0 fits (sym read.1 ∙ same)))
