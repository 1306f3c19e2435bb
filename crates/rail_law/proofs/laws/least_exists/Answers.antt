use Rattle.rail_law.proofs.LeastValues.{least_exists_lem}
use Rattle.rail_law.proofs.laws.least_exists.Goals as goal

pub returns : goal.returns
returns c = least_exists_lem
