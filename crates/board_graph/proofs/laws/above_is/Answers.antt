use Rattle.board_graph.proofs.LoopLaws.{above_is_lem}
use Rattle.board_graph.proofs.laws.above_is.Goals as goal

pub returns : goal.returns
returns c = above_is_lem
