use Rattle.use_counts.proofs.Names.{distinct-named}
use Rattle.use_counts.proofs.mine.Mine.len.Goals as goal

pub returns-clause-distinct : goal.returns-clause-distinct
returns-clause-distinct c = rw (← c.self.view_is) (distinct-named c.self.inside.names c.len.ensures.unique)
