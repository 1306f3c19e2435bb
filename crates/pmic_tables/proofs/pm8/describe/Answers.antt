use Rattle.pmic_tables.specs.Pm8.{pm8}
use Rattle.pmic_tables.proofs.pm8.describe.Goals as goal

pub returns : goal.returns
unfolding pm8
returns c = c.describe.ensures
