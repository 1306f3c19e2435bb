use Rattle.board_checks.proofs.LoadLaws.{no_load_fault as law}
use Rattle.board_checks.proofs.laws.no_load_fault.Goals as goal

pub returns : goal.returns
returns c = law
