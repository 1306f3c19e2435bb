use Rattle.rail_law.proofs.Updates.{update_is_put_lem}
use Rattle.rail_law.proofs.laws.update_is_put.Goals as goal

pub returns : goal.returns
returns c = update_is_put_lem
