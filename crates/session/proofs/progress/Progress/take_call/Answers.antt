use Rattle.std.proofs.Common.{rules}
use Rattle.session.specs.Frame.{end_line}
use Rattle.session.proofs.Beginnings.{Fits-script}
use Rattle.session.proofs.LineLaws.{is_line, is_other}
use Rattle.session.proofs.Stages.{call_reads, call_unbuilt_text, call_unbuilt_demo, line_too_many}
use Rattle.session.proofs.progress.Progress.take_call.Goals as goal

pub returns-then-not-self-clause-err : goal.returns-then-not-self-clause-err
returns-then-not-self-clause-err c = λ other board sound.
    call_unbuilt_text board c.args.self.now sound c.requires.stage c.args.line.now (is_other c.args.line.now _ end_line c.as_slice.ensures c.if-eq.ensures) (search rules)

pub returns-in_default-clause-err : goal.returns-in_default-clause-err
returns-in_default-clause-err c = λ other board sound.
    call_unbuilt_demo board c.args.self.now sound c.requires.stage c.args.line.now (is_other c.args.line.now _ end_line c.as_slice.ensures c.if-eq.ensures) (search rules) (rw c.as_slice-2.ensures at c.in_default.ensures.none)

pub returns-then-len-eq-CALL_LIMIT-clause-err : goal.returns-then-len-eq-CALL_LIMIT-clause-err
returns-then-len-eq-CALL_LIMIT-clause-err c = λ other board sound.
    let next = c.in-Some.ensures.some in
    line_too_many board c.args.self.now sound c.requires.stage c.args.line.now (is_other c.args.line.now _ end_line c.as_slice.ensures c.if-eq.ensures) (search rules) c.in-Some.call (rw c.as_slice-2.ensures at next.0) next.1 (search rules)

pub returns-clause-ok : goal.returns-clause-ok
returns-clause-ok c =
    let next = c.in-Some.ensures.some in
    rw c.in_ok-push.ensures.ok (λ board sound. call_reads board c.args.self.now sound c.requires.stage (search rules) c.in-Some.call c.args.line.now (rw c.as_slice-2.ensures at next.0) next.1 (search rules))

pub returns-then-eq-clause-ok : goal.returns-then-eq-clause-ok
returns-then-eq-clause-ok c =
    rw (is_line c.args.line.now _ end_line c.as_slice.ensures c.if-eq.ensures) c.end_worker.ensures.ok

pub next_call-requires : goal.next_call-requires
next_call-requires c =
    let on = c.requires.beginning in
    rw c.as_slice-2.ensures (Fits-script on.0 c.args.self.now.script on.1.script)
