use Rattle.std.proofs.Common.{arith}
use Rattle.session.specs.Frame.{end_line}
use Rattle.session.proofs.Leaves.{fault_of}
use Rattle.session.proofs.LineLaws.{is_line, is_other, shorter}
use Rattle.session.proofs.Texts.{text_begun, text_next, text_done, text_last}
use Rattle.session.proofs.frame.read_text.Goals as goal

pub lines-init : goal.lines-init
lines-init c = record { read = text_begun c.args.text.now; room = omega arith }

pub lines-preserved : goal.lines-preserved
lines-preserved c = record {
  read = text_next c.args.text.now c.lines.rest.now c.lines.number c.lines.invariant.read c.in-Some.line.now c.in-Some.more.now c.in-Some.ensures.parts c.in-Some.ensures.first (is_other c.in-Some.line.now _ end_line c.as_slice.ensures c.if-eq.ensures);
  room = omega (arith, c.lines.invariant.room, shorter c.lines.rest.now c.in-Some.line.now c.in-Some.more.now c.in-Some.ensures.parts);
}

pub lines-smaller : goal.lines-smaller
lines-smaller c = shorter c.lines.rest.now c.in-Some.line.now c.in-Some.more.now c.in-Some.ensures.parts

pub returns-then-eq-clause-board : goal.returns-then-eq-clause-board
returns-then-eq-clause-board c =
    text_done c.args.text.now c.lines.rest.now c.lines.number c.lines.invariant.read c.in-Some.line.now c.in-Some.more.now c.in-Some.ensures.parts c.in-Some.ensures.first (is_line c.in-Some.line.now _ end_line c.as_slice.ensures c.if-eq.ensures) (omega (arith, c.lines.invariant.room, shorter c.lines.rest.now c.in-Some.line.now c.in-Some.more.now c.in-Some.ensures.parts))

pub returns-clause-fault : goal.returns-clause-fault
returns-clause-fault c =
    fault_of c.fault.ensures (text_last c.args.text.now c.lines.rest.now c.lines.number c.lines.invariant.read c.in_default.ensures.none)
