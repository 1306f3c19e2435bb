use Rattle.std.proofs.Common.{◌∙◌}
use Rattle.board_draft.proofs.GraphLemmas.{graph_by}
use Rattle.board_draft.proofs.graph.graph_of.Goals as goal

pub returns : goal.returns
returns c = graph_by c.args.tree.now c.args.rails.now c.args.limits.now c.args.supplies.now c.args.named.now _ _ _ c.requires.limits c.requires.supplies c.requires.named
    (c.from_vec-supply.ensures ∙ c.in_ok-from_slice.ensures.items ∙ c.as_slice.ensures) c.in_ok-group.ensures c.in_ok-link.ensures
