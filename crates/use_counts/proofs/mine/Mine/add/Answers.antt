use Rattle.std.proofs.Common.{Some}
use Rattle.use_counts.proofs.Names.{rail_named-update, length-more}
use Rattle.use_counts.proofs.mine.Mine.add.Goals as goal
use Rattle.use_counts.proofs.mine.Mine.add.Goals.{in-Ok, in-Err}

pub returns-clause-named : goal.returns-clause-named
returns-clause-named c =
    elim c.match-insert.branch [
      | in-Ok w ↦ rw (w.result-is, ← c.self.view_is)
          (rail_named-update c.self.inside.names c.insert.new.self c.args.handle (Some c.args.r) (rw w.in-Ok.is at c.insert.ensures.updates).0)
      | in-Err w ↦ rw w.result-is tt
    ]

pub returns-clause-more : goal.returns-clause-more
returns-clause-more c =
    elim c.match-insert.branch [
      | in-Ok w ↦ rw (w.result-is, ← c.self.view_is)
          (length-more c.self.inside.names c.insert.new.self c.args.handle w.in-Ok.field-0
          (rw w.in-Ok.is at c.insert.ensures.old)
          (rw (← c.self.view_is) at c.requires.new)
          (rw w.in-Ok.is at c.insert.ensures.len))
      | in-Err w ↦ rw w.result-is tt
    ]
