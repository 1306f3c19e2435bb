use Rattle.rail_law.proofs.Admissible.{admissible_lower}
use Rattle.rail_law.proofs.laws.closed_under_lower.Goals as goal

pub returns : goal.returns
returns c = admissible_lower
