use Rattle.std.proofs.Common.{length}
use Rattle.dts_tree.proofs.CellLemmas.{cells-result}
use Rattle.dts_tree.proofs.tree.nodes.Nodes.cells.Goals as goal

pub returns-in-Some-clause-below : goal.returns-in-Some-clause-below
returns-in-Some-clause-below c = cells-result (λ v. v.items) (length c.args.self.now) c.in-Some.pieces.now c.cells_of.result c.cells_of.ensures c.in-Some.ensures.below
