use Rattle.rail_law.proofs.LeastValues.{one_least_lem, least_is_found}
use Rattle.rail_law.proofs.laws.one_least.Goals as goal

pub returns : goal.returns
returns c = record { only = one_least_lem; answer = least_is_found }
