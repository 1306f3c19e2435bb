use Rattle.rail_law.proofs.Judged.{supply_below, supply_read}
use Rattle.rail_law.proofs.law.supply_of.Goals as goal

pub returns-clause-rail : goal.returns-clause-rail
returns-clause-rail c = supply_below c.args.board.now c.args.r _ c.requires.valid.sound c.requires.rail (supply_read c.args.board.now c.args.r c.as_slice.result.now c.requires.valid.sound c.requires.rail c.as_slice.ensures)
