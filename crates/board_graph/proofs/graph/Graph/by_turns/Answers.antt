use Rattle.std.proofs.Common.{[]}
use Rattle.board_graph.proofs.OrderLemmas.{all_feeds, led_within, order_ok}
use Rattle.board_graph.proofs.graph.Graph.by_turns.Goals as goal

pub all_turns-requires-clause-feeds : goal.all_turns-requires-clause-feeds
all_turns-requires-clause-feeds c = all_feeds c.args.self.now c.args.leaders.now c.args.feeds.now c.requires.graph c.requires.leaders c.requires.feeds

pub joined-requires : goal.joined-requires
joined-requires c =
    rw (c.as_slice-2.ensures, c.as_slice.ensures.value, c.in_ok-members.ensures.size, c.requires.leaders.size)
    (led_within c.args.self.now c.args.leaders.now c.args.feeds.now c.requires.graph c.requires.leaders c.requires.feeds [] c.in_ok-taken.taken c.in_ok-taken.ensures.turns)

pub returns : goal.returns
returns c =
    order_ok c.args.self.now c.args.leaders.now c.args.feeds.now c.requires.graph c.requires.leaders c.requires.feeds
    c.in_ok-members.members.items c.in_ok-taken.taken c.joined.result c.in_ok-members.ensures c.in_ok-taken.ensures c.requires.loops
    (rw (c.as_slice-2.ensures, c.as_slice.ensures.value) at c.joined.ensures)
