use Rattle.board_graph.proofs.AboveLemmas.{marked_ok}
use Rattle.board_graph.proofs.graph.Graph.above.Goals as goal

pub returns : goal.returns
returns c =
    marked_ok c.args.self.now c.args.r c.in_ok-met.met c.marked.result c.requires.graph c.requires.rail c.in_ok-met.ensures (rw c.as_slice.ensures at c.marked.ensures)
