use Rattle.std.proofs.Common.{rules}
use Rattle.session.proofs.Stages.{done_bad}
use Rattle.session.proofs.progress.Progress.take_line.Goals as goal

pub returns-in-Done-clause-err : goal.returns-in-Done-clause-err
returns-in-Done-clause-err c = λ other board sound. done_bad board c.args.self.now sound (search rules) c.args.line.now
