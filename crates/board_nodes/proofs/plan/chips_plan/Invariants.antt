use Rattle.board_nodes.proofs.ChipLemmas.{HasFirst}
use Rattle.board_nodes.proofs.plan.chips_plan.Given as goal

abbrev pub invariant-loop-node : goal.invariant-loop-node
invariant-loop-node l = HasFirst l.tree l.survey.chips l.chips l.plan l.node-index l.number
