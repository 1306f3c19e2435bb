use Rattle.board_graph.proofs.TurnLemmas.{led_below}
use Rattle.board_graph.proofs.turns.Turns.new.Goals as goal

pub counts-requires : goal.counts-requires
counts-requires c = rw c.as_slice.ensures (led_below c.args.leaders.now c.args.feeds.now c.requires.feeds)
