use Rattle.std.proofs.Common.{rules}
use Rattle.session.proofs.Stages.{worker_reads, worker_too_many}
use Rattle.session.proofs.progress.Progress.begin_worker.Goals as goal

pub returns-then-len-eq-WORKER_LIMIT-clause-err : goal.returns-then-len-eq-WORKER_LIMIT-clause-err
returns-then-len-eq-WORKER_LIMIT-clause-err c = λ board sound. worker_too_many board c.args.self.now sound c.requires (search rules)

pub returns-clause-ok : goal.returns-clause-ok
returns-clause-ok c = λ board sound. worker_reads board c.args.self.now sound c.requires (search rules)
