use Rattle.dts_tree.proofs.TreeLawLemmas.{trees_are_trees}
use Rattle.dts_tree.proofs.laws.trees_are_trees.Goals as goal

pub returns : goal.returns
returns c = trees_are_trees
