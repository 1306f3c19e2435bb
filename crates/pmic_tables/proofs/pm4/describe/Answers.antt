use Rattle.pmic_tables.specs.Pm4.{pm4}
use Rattle.pmic_tables.proofs.pm4.describe.Goals as goal

pub returns : goal.returns
unfolding pm4
returns c = c.describe.ensures
