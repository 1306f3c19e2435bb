use Rattle.std.proofs.Common.{ℕ, ◌<◌}
use Rattle.board_graph.specs.Inside.Walk.{IsAtRest, IsDone}
use Rattle.board_graph.proofs.walk.loops.Given as goal

abbrev pub invariant-loop-root : goal.invariant-loop-root
invariant-loop-root l = record {
  rest : IsAtRest l.next l.walk;
  done : (v : ℕ) → v < l.root → IsDone l.walk.visits v;
}
