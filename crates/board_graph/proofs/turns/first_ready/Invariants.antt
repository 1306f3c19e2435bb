use Rattle.std.proofs.Common.{◌≡◌, ◌&&◌, ℕ, nat_eq, nat_lt, slice_index}
use Rattle.std.specs.BTreeSet.{contains}
use Rattle.std.specs.Ordering.{nat_cmp}
use Rattle.board_graph.proofs.turns.first_ready.Given as goal

abbrev pub invariant-loop-rail : goal.invariant-loop-rail
invariant-loop-rail l = (v : ℕ) → contains nat_cmp l.ready v ≡ (nat_lt v l.rail && nat_eq (slice_index l.leaders v) v && nat_eq (slice_index l.waits v) 0)
