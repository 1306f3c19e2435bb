use Rattle.std.proofs.Common.{ℕ, ◌&&◌}
use Rattle.board_graph.specs.Loops.{is_above}
use Rattle.board_draft.specs.Inside.Pairs.{names_in}
use Rattle.board_draft.proofs.Walks.{NoneBefore}
use Rattle.board_draft.proofs.pairs.coupled_supplier.Given as goal

abbrev pub invariant-loop-pair : goal.invariant-loop-pair
invariant-loop-pair l = NoneBefore (λ (pair : ℕ × ℕ). names_in l.named pair.0 pair.1 && is_above l.graph pair.1 pair.0) l.pairs l.pair-index
