use Rattle.pmic_tables.proofs.Made.{AreMade}
use Rattle.pmic_tables.proofs.layout.Layout.describe.Given as goal

abbrev pub invariant-loop-row : goal.invariant-loop-row
invariant-loop-row l = AreMade l.self.number l.self.sleep l.rows l.rails l.row-index l.place
