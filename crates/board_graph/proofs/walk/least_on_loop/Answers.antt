use Rattle.board_graph.proofs.WalkEnds.{least_marked}
use Rattle.board_graph.proofs.walk.least_on_loop.Goals as goal

pub returns : goal.returns
returns c =
    least_marked c.args.next.now c.in_ok-loops.loops c.first_marked.result c.in_ok-loops.ensures
    (rw c.as_slice.ensures at c.first_marked.ensures.none) (rw c.as_slice.ensures at c.first_marked.ensures.marked) (rw c.as_slice.ensures at c.first_marked.ensures.first)
