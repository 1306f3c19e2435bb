use Rattle.std.proofs.Common.{◌≡◌, false}
use Rattle.board_graph.specs.Inside.Walk.{is_new, visit_of, work_of, GoOn, GrowsFrom, IsSound}
use Rattle.board_graph.proofs.walk.Walk.visit.Given as goal

abbrev pub invariant-loop : goal.invariant-loop
invariant-loop l = record {
  sound : IsSound l.next l.self;
  goes : GoOn l.fn.self.visits l.self.visits;
  from : GrowsFrom l.next l.root l.fn.self.visits l.self.visits;
  seen : is_new (visit_of l.self.visits l.root) ≡ false;
}

abbrev pub decreases-loop : goal.decreases-loop
decreases-loop l = work_of l.next l.self
