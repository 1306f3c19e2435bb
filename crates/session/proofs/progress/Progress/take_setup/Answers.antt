use Rattle.session.proofs.Stages.{setup_bad, setup_reads}
use Rattle.session.proofs.progress.Progress.take_setup.Goals as goal

pub returns-in_default-clause-err : goal.returns-in_default-clause-err
returns-in_default-clause-err c = λ other board sound.
    setup_bad board c.args.self.now sound c.requires.stage c.args.line.now c.requires.not_worker c.requires.not_done (λ found. c.in_default.ensures.none found.0 found.1 found.2)

pub returns-clause-ok : goal.returns-clause-ok
returns-clause-ok c =
    rw c.in_ok-push.ensures.ok (λ board sound. setup_reads board c.args.self.now sound c.requires.stage c.in-Some.setup c.args.line.now c.in-Some.ensures.some.0 c.in-Some.ensures.some.1)
