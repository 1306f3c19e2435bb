use Rattle.rail_law.proofs.LawByTies.{law_by_ties_lem}
use Rattle.rail_law.proofs.laws.law_by_ties.Goals as goal

pub returns : goal.returns
returns c = law_by_ties_lem
