use Rattle.rail_law.proofs.Admissible.{admissible_higher}
use Rattle.rail_law.proofs.laws.closed_under_higher.Goals as goal

pub returns : goal.returns
returns c = admissible_higher
