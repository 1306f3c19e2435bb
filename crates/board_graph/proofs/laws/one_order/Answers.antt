use Rattle.board_graph.proofs.OneOrder.{one_order_lem}
use Rattle.board_graph.proofs.laws.one_order.Goals as goal

pub returns : goal.returns
returns c = one_order_lem
