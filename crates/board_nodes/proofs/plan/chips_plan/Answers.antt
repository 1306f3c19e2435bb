use Rattle.std.proofs.Common.{refl}
use Rattle.board_nodes.proofs.RailLemmas.{chips-there}
use Rattle.board_nodes.proofs.plan.chips_plan.Goals as goal

pub loop-node-init : goal.loop-node-init
loop-node-init c = record {
  at = refl;
  rails = rw c.new.ensures refl;
  resets = rw c.new-2.ensures refl;
  chips_are = refl;
  there = rw c.requires.survey.chips (chips-there c.args.tree.now);
  sound = λ sound. sound;
}
