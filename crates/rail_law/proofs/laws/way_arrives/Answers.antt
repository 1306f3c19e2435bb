use Rattle.rail_law.proofs.WayArrives.{way_arrives_lem}
use Rattle.rail_law.proofs.laws.way_arrives.Goals as goal

pub returns : goal.returns
returns c = way_arrives_lem
