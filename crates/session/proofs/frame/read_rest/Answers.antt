use Rattle.std.proofs.Common.{◌≡◌, ap, ◌∙◌, arith, rules}
use Rattle.session.specs.declared.fault.SessionFault.{SessionFault}
use Rattle.session.specs.declared.progress.Stage.TheVariants.{Done}
use Rattle.session.proofs.Leaves.{fault_of}
use Rattle.session.proofs.LineLaws.{empty_by, filled_by, not_true, shorter}
use Rattle.session.proofs.Rests.{first_beginning, rest_begun, rest_next, rest_here, rest_last, rest_more, rest_done}
use Rattle.session.proofs.frame.read_rest.Goals as goal
use Rattle.session.proofs.frame.read_rest.Goals.{else-whole-via-then-whole+else-is_done, else-whole-via-else-whole}

pub lines-init : goal.lines-init
lines-init c =
    rw c.new-progress.ensures record {
      beginning = first_beginning c.args.demo;
      read = λ board behind. rest_begun board c.args.demo c.args.first c.args.text.now behind;
      room = c.requires;
    }

pub lines-preserved : goal.lines-preserved
lines-preserved c =
    let on = c.lines.invariant.beginning in
    let ok = c.in_default-take_line.ensures.ok in
    record {
      beginning = (on.0, (ok on.0 on.1).sound);
      read = λ board behind. rest_next board c.args.text.now c.lines.progress c.lines.rest.now c.lines.number (c.lines.invariant.read board behind) c.in-Some.line.now c.in-Some.more.now c.take_line.new.self c.in-Some.ensures.parts c.in-Some.ensures.first (ok board (c.lines.invariant.read board behind).sound);
      room = omega (arith, c.lines.invariant.room, shorter c.lines.rest.now c.in-Some.line.now c.in-Some.more.now c.in-Some.ensures.parts);
    }

pub returns-in-Err-clause-fault : goal.returns-in-Err-clause-fault
returns-in-Err-clause-fault c = λ board behind other.
    let read = c.lines.invariant.read board behind in
    fault_of c.fault.ensures (rest_here board c.args.text.now c.lines.progress c.lines.rest.now c.lines.number read c.in-Some.line.now c.in-Some.more.now c.in-Err.kind c.in-Some.ensures.parts c.in-Some.ensures.first (c.in-Err.ensures.err (λ memory. other (ap (λ (f : SessionFault). f.kind) c.fault.ensures ∙ memory)) board read.sound))

pub returns-then-is_done-clause-rest : goal.returns-then-is_done-clause-rest
returns-then-is_done-clause-rest c = λ board behind.
    let done : c.lines.progress.stage ≡ Done = search rules in
    rest_done board c.args.text.now c.lines.progress c.lines.rest.now c.lines.number (c.lines.invariant.read board behind) (empty_by c.lines.rest.now (search rules)) done

pub returns-clause-fault : goal.returns-clause-fault
returns-clause-fault c = λ board behind other.
    let read = c.lines.invariant.read board behind in
    let lacks = c.in_default.ensures.none in
    fault_of c.fault-2.ensures
    (elim c.else-whole.branch [
      | else-whole-via-then-whole+else-is_done w ↦ rest_last board c.args.text.now c.lines.progress c.lines.rest.now c.lines.number read lacks (λ done. not_true (w.if-is_done.ensures.1 done))
      | else-whole-via-else-whole w ↦ rest_more board c.args.text.now c.lines.progress c.lines.rest.now c.lines.number read lacks (filled_by c.lines.rest.now (search rules))
    ])
