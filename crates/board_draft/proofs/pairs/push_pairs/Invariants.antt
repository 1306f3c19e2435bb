use Rattle.std.proofs.Common.{◌≡◌, ℕ, map, ◌++◌}
use Rattle.std.specs.List.{range_with_len}
use Rattle.board_draft.proofs.pairs.push_pairs.Given as goal

abbrev pub invariant-loop-second : goal.invariant-loop-second
invariant-loop-second l = l.pairs.items ≡ l.initial.pairs.items ++ map (λ (second : ℕ). (l.first, second)) (range_with_len 0 l.second)
