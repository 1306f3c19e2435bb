use Rattle.std.proofs.Common.{◌≡◌, ℕ, [], length, slice_index, take}
use Rattle.board_graph.specs.Inside.Turns.{waiting}
use Rattle.board_graph.proofs.turns.counts.Given as goal

abbrev pub invariant-loop-pair : goal.invariant-loop-pair
invariant-loop-pair l = record {
  size : length l.counts ≡ l.count;
  counts : (v : ℕ) → slice_index l.counts v ≡ waiting (take l.pair-index l.pairs) [] v;
}
