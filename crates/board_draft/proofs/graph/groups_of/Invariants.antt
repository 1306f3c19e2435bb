use Rattle.std.proofs.Common.{◌≡◌, ℕ, List, map, take}
use Rattle.std.specs.Prelude.{fold, min}
use Rattle.std.specs.List.{enumerate_from}
use Rattle.board_draft.proofs.graph.groups_of.Given as goal

abbrev pub invariant-loop-r : goal.invariant-loop-r
invariant-loop-r l = l.groups.items ≡ map (λ (named : ℕ × List ℕ). fold min named.0 named.1) (take l.r (enumerate_from 0 l.named))
