use Rattle.board_checks.proofs.SleepLaws.{no_suspend_fault as law}
use Rattle.board_checks.proofs.laws.no_suspend_fault.Goals as goal

pub returns : goal.returns
returns c = law
