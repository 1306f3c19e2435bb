use Rattle.board_graph.proofs.graph.Graph.order.Goals as goal

pub returns-in-Some-2-clause-no_supply : goal.returns-in-Some-2-clause-no_supply
returns-in-Some-2-clause-no_supply c = λ r s is. (rw c.in_default.is at c.in_ok-rail.ensures) s
