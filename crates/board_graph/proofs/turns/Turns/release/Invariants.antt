use Rattle.std.proofs.Common.{◌≡◌, ◌+◌, ◌&&◌, ◌||◌, ℕ, nat_eq, length, slice_index, take}
use Rattle.std.specs.BTreeSet.{contains}
use Rattle.std.specs.List.{count_by}
use Rattle.std.specs.Ordering.{nat_cmp}
use Rattle.board_graph.specs.Order.{is_taken}
use Rattle.board_graph.proofs.turns.Turns.release.Given as goal

abbrev pub invariant-loop-vertex : goal.invariant-loop-vertex
invariant-loop-vertex l = record {
  size : length l.self.waits ≡ length l.fn.self.waits;
  waits : (v : ℕ) → slice_index l.self.waits v + count_by (nat_eq v) (take l.vertex-index l.fed) ≡ slice_index l.fn.self.waits v;
  ready : (v : ℕ) → contains nat_cmp l.self.ready v
      ≡ (contains nat_cmp l.fn.self.ready v || is_taken (take l.vertex-index l.fed) v && nat_eq (slice_index l.self.waits v) 0);
  taken : l.self.taken ≡ l.fn.self.taken;
}
