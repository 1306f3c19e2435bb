use Rattle.rail_law.proofs.LeastValues.{fewer_choices_lem}
use Rattle.rail_law.proofs.laws.fewer_choices.Goals as goal

pub returns : goal.returns
returns c = fewer_choices_lem
