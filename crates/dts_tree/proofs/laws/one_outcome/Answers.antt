use Rattle.dts_tree.proofs.LawLemmas.{one_outcome}
use Rattle.dts_tree.proofs.laws.one_outcome.Goals as goal

pub returns : goal.returns
returns c = one_outcome
