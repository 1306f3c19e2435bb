use Rattle.std.proofs.Common.{◌≡◌, [], ◌∷◌, ◌++◌, rules}
use Rattle.session.proofs.Stages.{end_reads}
use Rattle.session.proofs.progress.Progress.end_worker.Goals as goal

pub returns-clause-ok : goal.returns-clause-ok
returns-clause-ok c =
    let pushed : c.push.new.self ≡ c.args.self.now.scripts ++ c.args.self.now.script ∷ [] = search rules in
    let left : c.replace-script.new.dest ≡ [] = search rules in
    rw (pushed, left) (λ board sound. end_reads board c.args.self.now sound c.requires)
