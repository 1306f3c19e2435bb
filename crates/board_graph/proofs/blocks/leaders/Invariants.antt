use Rattle.std.specs.BTreeMap.{get}
use Rattle.std.specs.Ordering.{nat_cmp}
use Rattle.board_graph.specs.Inside.Blocks.{KnowsLeaders}
use Rattle.board_graph.proofs.blocks.leaders.Given as goal

abbrev pub invariant-loop-rail : goal.invariant-loop-rail
invariant-loop-rail l = KnowsLeaders l.groups l.leaders (λ group. get nat_cmp l.firsts group) l.rail
