use Rattle.std.proofs.Common.{◌≡◌, ℕ, map, take}
use Rattle.std.specs.List.{enumerate_from}
use Rattle.constraints.specs.Node.{constraints_at}
use Rattle.board_nodes.specs.Rails.{Found, seen}
use Rattle.board_draft.specs.Faults.{rail_fault}
use Rattle.board_draft.proofs.Walks.{NothingBefore}
use Rattle.board_draft.proofs.limits.limits_of.Given as goal

abbrev pub invariant-loop-r : goal.invariant-loop-r
invariant-loop-r l = record {
  told : NothingBefore (λ (rail : ℕ × Found). rail_fault l.tree rail.0 rail.1) (enumerate_from 0 (map seen l.rails)) l.r;
  limits : l.limits.items ≡ map (λ rail. constraints_at l.tree rail.node rail.desc) (take l.r l.rails);
}
