use Rattle.std.proofs.Common.{◌∙◌, false, subst, sym}
use Rattle.board_graph.specs.Graph.{count_of}
use Rattle.board_graph.specs.Inside.Lists.{AreBelow}
use Rattle.board_graph.proofs.NetLemmas.{feeds_are_below}
use Rattle.board_graph.proofs.graph.Graph.block_feeds.Goals as goal

pub lists-requires : goal.lists-requires
lists-requires c =
    let graph = c.args.self.now in
    rw c.requires.leaders.size
    (subst (AreBelow (count_of graph)) (sym (c.as_slice.ensures ∙ c.in_ok-pairs.ensures)) (feeds_are_below graph c.args.leaders.now false c.requires.graph c.requires.leaders))
