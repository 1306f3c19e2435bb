use Rattle.board_graph.proofs.LoopLaws.{above_is_lem}
use Rattle.board_graph.proofs.laws.supply_loop_is.Goals as goal

pub returns : goal.returns
returns c = λ graph r. above_is_lem graph r r
