use Rattle.std.proofs.Common.{◌≡◌, ◌++◌, map, drop}
use Rattle.std.specs.List.{AllByRecursion, enumerate_from}
use Rattle.board_nodes.specs.Inside.Drafts.{found_in}
use Rattle.board_nodes.specs.Inside.Outline.{IsThere}
use Rattle.board_nodes.specs.Rails.{fixed_rail}
use Rattle.board_nodes.proofs.draft.put_fixed.Given as goal

abbrev pub invariant-loop-node : goal.invariant-loop-node
invariant-loop-node l = record {
  register : l.register ≡ l.node-index;
  rails : map found_in l.drafts ++ map (λ fixed. fixed_rail l.tree l.chip fixed.0 fixed.1) (enumerate_from l.register (drop l.node-index l.nodes))
      ≡ map found_in l.fn.drafts ++ map (λ fixed. fixed_rail l.tree l.chip fixed.0 fixed.1) (enumerate_from 0 l.nodes);
  inside : AllByRecursion (IsThere l.tree) (drop l.node-index l.nodes);
}
