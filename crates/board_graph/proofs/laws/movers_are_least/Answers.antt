use Rattle.board_graph.proofs.SetLaws.{movers_are_least_lem}
use Rattle.board_graph.proofs.laws.movers_are_least.Goals as goal

pub returns : goal.returns
returns c = movers_are_least_lem
