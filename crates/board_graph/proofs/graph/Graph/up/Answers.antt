use Rattle.std.proofs.Common.{◌∙◌, ap, subst, sym}
use Rattle.board_graph.specs.Inside.Lists.{turned, AreBelow}
use Rattle.board_graph.specs.Graph.{count_of}
use Rattle.board_graph.proofs.NetLemmas.{turned_are_below, leaders_rails}
use Rattle.board_graph.proofs.graph.Graph.up.Goals as goal

pub lists-requires : goal.lists-requires
lists-requires c =
    let graph = c.args.self.now in
    rw c.requires.leaders.size
    (subst (AreBelow (count_of graph)) (sym (c.as_slice-2.ensures ∙ c.in_ok-turned.ensures ∙ ap turned (c.as_slice.ensures ∙ c.in_ok-feeds.ensures)))
    (turned_are_below graph c.args.leaders.now c.args.only_linked c.requires.graph (leaders_rails graph c.args.leaders.now c.requires.leaders)))
