use Rattle.board_graph.proofs.LoopLaws.{loop_is_lem}
use Rattle.board_graph.proofs.laws.block_loop_is.Goals as goal

pub returns : goal.returns
returns c = loop_is_lem
