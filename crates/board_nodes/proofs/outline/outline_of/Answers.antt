use Rattle.std.proofs.Common.{length, ap, ◌∙◌}
use Rattle.board_nodes.proofs.WalkLemmas.{length-in_use}
use Rattle.board_nodes.proofs.outline.outline_of.Goals as goal

pub returns : goal.returns
returns c = record {
  used = c.in_ok-used.ensures;
  count = ap length c.in_ok-used.ensures ∙ length-in_use c.args.tree.now;
  siblings = c.in_ok-siblings.ensures;
}
