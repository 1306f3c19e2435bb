use Rattle.script.proofs.Named.{rail_named-insert}
use Rattle.script.proofs.rail_names.put.Goals as goal

pub returns-in-Ok : goal.returns-in-Ok
returns-in-Ok c =
    rail_named-insert c.args.names.now.entries c.insert.new.self.entries c.args.name c.args.r c.requires c.in-Ok.ensures.updates.0
