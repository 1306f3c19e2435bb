use Rattle.std.proofs.Common.{◌≡◌, ◌-◌, length}
use Rattle.std.specs.Option.{option_map_or}
use Rattle.dts_nodes.specs.Use.{good_child_of}
use Rattle.board_nodes.proofs.WalkLemmas.{found_at, IsChild}
use Rattle.board_nodes.proofs.outline.Outline.child.Given as goal

abbrev pub invariant-loop-at : goal.invariant-loop-at
invariant-loop-at l = record {
  rest : good_child_of l.tree l.parent l.name ≡ found_at l.tree l.parent l.name l.at;
  child : IsChild l.tree l.parent 0 l.at;
}

abbrev pub decreases-loop-at : goal.decreases-loop-at
decreases-loop-at l = option_map_or (λ node. length l.tree - node) l.at 0
