use Rattle.rail_law.proofs.WayArrives.{way_is_of_choices_lem}
use Rattle.rail_law.proofs.laws.way_is_of_choices.Goals as goal

pub returns : goal.returns
returns c = way_is_of_choices_lem
