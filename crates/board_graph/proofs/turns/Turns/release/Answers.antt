use Rattle.std.proofs.Common.{arith}
use Rattle.board_graph.proofs.TurnLemmas.{waits_some, waits_within}
use Rattle.board_graph.proofs.turns.Turns.release.Goals as goal

pub bounds-as_slice-vertex : goal.bounds-as_slice-vertex
bounds-as_slice-vertex c =
    rw c.as_slice.ensures (waits_within c.args.fed.now c.args.self.now.waits c.loop-vertex.self.waits c.loop-vertex.vertex-index c.loop-vertex-test.true c.requires c.loop-vertex.invariant.waits)

pub overflow_sub-waits : goal.overflow_sub-waits
overflow_sub-waits c =
    rw c.as_slice.ensures
    (omega (arith, waits_some c.args.fed.now c.args.self.now.waits c.loop-vertex.self.waits c.loop-vertex.vertex-index c.loop-vertex-test.true c.requires c.loop-vertex.invariant.waits))
