use Rattle.std.proofs.Common.{arith}
use Rattle.std.specs.BTreeMap.{get}
use Rattle.std.specs.Ordering.{nat_cmp}
use Rattle.board_graph.proofs.BlockLemmas.{knows_more, knows_all}
use Rattle.board_graph.proofs.blocks.leaders.Goals as goal

pub loop-rail-preserved : goal.loop-rail-preserved
loop-rail-preserved c =
    rw c.in_ok-push.ensures.ok (knows_more c.args.groups.now c.loop-rail.leaders (λ group. get nat_cmp c.loop-rail.firsts group) (λ group. get nat_cmp c.leader_of.new.firsts group)
    c.loop-rail.rail c.in_ok-leader.leader c.loop-rail-test.true c.loop-rail.invariant c.in_ok-leader.ensures.leader c.in_ok-leader.ensures.firsts)

pub returns : goal.returns
returns c = knows_all c.args.groups.now c.loop-rail.leaders (λ group. get nat_cmp c.loop-rail.firsts group) c.loop-rail.rail (omega (arith, c.loop-rail-test.false, c.loop-rail.auto.rail-end)) c.loop-rail.invariant
