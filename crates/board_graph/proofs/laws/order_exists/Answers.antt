use Rattle.board_graph.proofs.OrderExists.{order_exists_lem}
use Rattle.board_graph.proofs.LoopsHaveNoOrder.{loops_have_no_order}
use Rattle.board_graph.proofs.laws.order_exists.Goals as goal

pub returns : goal.returns
returns c = record { exists = order_exists_lem; no_loop = loops_have_no_order }
