use Rattle.std.proofs.Common.{sym}
use Rattle.use_counts.proofs.Names.{rail_named-named}
use Rattle.use_counts.proofs.mine.Mine.rail_of.Goals as goal

pub returns : goal.returns
returns c =
    rw (← c.self.view_is, c.copied.ensures, c.get.ensures.value) (sym (rail_named-named c.self.inside.names c.args.handle.now))
