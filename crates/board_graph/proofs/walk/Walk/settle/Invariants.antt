use Rattle.std.proofs.Common.{◌≡◌, ◌≤◌, length, drop, take}
use Rattle.board_graph.specs.Inside.Walk.{AreSettled}
use Rattle.board_graph.proofs.walk.Walk.settle.Given as goal

abbrev pub invariant-loop-self : goal.invariant-loop-self
invariant-loop-self l = record {
  from : l.first ≤ length l.self.path;
  to : length l.self.path ≤ length l.fn.self.path;
  path : l.self.path ≡ take (length l.self.path) l.fn.self.path;
  visits : AreSettled l.fn.self.visits (drop (length l.self.path) l.fn.self.path) l.on_loop l.self.visits;
  pending : l.self.pending ≡ l.fn.self.pending;
  knots : l.self.knots ≡ l.fn.self.knots;
}

abbrev pub decreases-loop-self : goal.decreases-loop-self
decreases-loop-self l = length l.self.path
