use Rattle.board_graph.proofs.SetLaws.{closure_is_least_lem}
use Rattle.board_graph.proofs.laws.closure_is_least.Goals as goal

pub returns : goal.returns
returns c = closure_is_least_lem
