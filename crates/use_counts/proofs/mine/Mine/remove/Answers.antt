use Rattle.std.proofs.Common.{None}
use Rattle.use_counts.proofs.Names.{rail_named-update, length-fewer}
use Rattle.use_counts.proofs.mine.Mine.remove.Goals as goal

pub returns-clause-named : goal.returns-clause-named
returns-clause-named c =
    rw (← c.self.view_is) (rail_named-update c.self.inside.names c.swap_remove.new.self c.args.handle.now None c.swap_remove.ensures.updates.0)

pub returns-clause-fewer : goal.returns-clause-fewer
returns-clause-fewer c =
    rw (← c.self.view_is) (length-fewer c.self.inside.names c.swap_remove.new.self c.args.handle.now c.swap_remove.result c.swap_remove.ensures.value c.swap_remove.ensures.len)
