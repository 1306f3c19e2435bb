use Rattle.session.specs.Inside.Progress.{worker_line, done_line}
use Rattle.session.proofs.LineLaws.{is_line, is_other}
use Rattle.session.proofs.Stages.{between_left, between_bad, done_reads}
use Rattle.session.proofs.progress.Progress.take_keyword.Goals as goal

pub returns-then-eq-2-clause-ok : goal.returns-then-eq-2-clause-ok
returns-then-eq-2-clause-ok c = λ board sound.
    done_reads board c.args.self.now sound c.requires c.args.line.now (is_line c.args.line.now _ done_line c.as_slice-2.ensures c.if-eq-2.ensures)

pub returns-in_default : goal.returns-in_default
returns-in_default c = record {
  ok = tt;
  err = λ other board sound. between_bad board c.args.self.now sound (between_left c.args.self.now.stage c.requires c.in_default.not-Setup) c.args.line.now (is_other c.args.line.now _ worker_line c.as_slice.ensures c.if-eq.ensures) (is_other c.args.line.now _ done_line c.as_slice-2.ensures c.if-eq-2.ensures);
}
