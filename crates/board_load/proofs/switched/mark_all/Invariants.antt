use Rattle.std.proofs.Common.{◌≡◌, ℕ, false, ◌||◌, length, take}
use Rattle.std.specs.Prelude.{slice_index_or}
use Rattle.board_graph.specs.Order.{is_taken}
use Rattle.board_load.proofs.switched.mark_all.Given as goal

abbrev pub invariant-loop-number : goal.invariant-loop-number
invariant-loop-number l = record {
  size : length l.marks ≡ length l.initial.marks;
  marks : (i : ℕ) → slice_index_or l.marks i false ≡ (slice_index_or l.initial.marks i false || is_taken (take l.number-index l.numbers) i);
}
