use Rattle.std.proofs.Common.{◌≡◌, length, subst, sym}
use Rattle.std.specs.Result.{IfOk}
use Rattle.board_graph.specs.Inside.Net.{IsNet}
use Rattle.board_graph.specs.Inside.Blocks.{led_by}
use Rattle.board_graph.proofs.SetCalls.{up_net, all_upward}
use Rattle.board_graph.proofs.graph.Graph.upward.Goals as goal

pub reach-requires-clause-net : goal.reach-requires-clause-net
reach-requires-clause-net c =
    subst IsNet (sym c.as_slice-3.ensures.value)
    (up_net c.args.self.now c.in_ok-leaders.leaders c.args.only_linked c.in_ok-up.up.items c.requires.graph
    (rw c.as_slice.ensures at c.in_ok-leaders.ensures) (rw c.as_slice-2.ensures at c.in_ok-up.ensures))

pub returns : goal.returns
returns c =
    let led : IfOk c.led_by.result (λ rails. rails ≡ led_by c.as_slice-5.result.now c.as_slice-6.result.now (length c.as_slice-5.result.now)) = c.led_by.ensures in
    all_upward c.args.self.now c.in_ok-leaders.leaders c.args.only_linked c.in_ok-up.up.items c.args.r c.in_ok-reached.reached c.led_by.result c.requires.graph
    (rw c.as_slice.ensures at c.in_ok-leaders.ensures) (rw c.as_slice-2.ensures at c.in_ok-up.ensures) c.requires.rail
    (rw (c.as_slice-3.ensures.value, c.as_slice-4.ensures) at c.in_ok-reached.ensures) (rw (c.as_slice-5.ensures, c.as_slice-6.ensures) at led)
