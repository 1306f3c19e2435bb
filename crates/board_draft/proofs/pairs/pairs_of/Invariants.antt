use Rattle.std.proofs.Common.{◌≡◌, ℕ, map}
use Rattle.std.specs.Prelude.{flat_map}
use Rattle.std.specs.List.{range_with_len}
use Rattle.board_draft.proofs.pairs.pairs_of.Given as goal

abbrev pub invariant-loop-first : goal.invariant-loop-first
invariant-loop-first l = l.pairs.items ≡ flat_map (λ (a : ℕ). map (λ (b : ℕ). (a, b)) (range_with_len 0 l.count)) (range_with_len 0 l.first)
