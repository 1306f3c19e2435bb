use Rattle.pmic_tables.specs.Pm12.{pm12}
use Rattle.pmic_tables.proofs.pm12.describe.Goals as goal

pub returns : goal.returns
unfolding pm12
returns c = c.describe.ensures
