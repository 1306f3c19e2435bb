use Rattle.std.proofs.Common.{◌≡◌, ◌≤◌, ℕ, map, take, drop, length}
use Rattle.std.specs.Prelude.{reverse}
use Rattle.std.specs.List.{enumerate_from}
use Rattle.board_nodes.specs.Rails.{Found, seen}
use Rattle.board_draft.specs.Sketch.{rail_at, trimmed}
use Rattle.board_draft.proofs.build.rails_of.Given as goal

abbrev pub invariant-loop-node : goal.invariant-loop-node
invariant-loop-node l =
    let all = l.fn.nodes.items in
    let left = length l.nodes.items in
    let found = map seen all in
    record {
      few : left ≤ length all;
      kept : l.nodes.items ≡ take left all;
      built : map trimmed (reverse l.rails.items) ≡ map (λ (rail : ℕ × Found). rail_at l.tree found rail.0 rail.1) (drop left (enumerate_from 0 found));
    }

abbrev pub decreases-loop-node : goal.decreases-loop-node
decreases-loop-node l = length l.nodes.items
