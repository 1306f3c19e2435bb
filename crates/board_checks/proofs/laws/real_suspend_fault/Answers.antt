use Rattle.board_checks.proofs.SleepLaws.{real_suspend_fault as law}
use Rattle.board_checks.proofs.laws.real_suspend_fault.Goals as goal

pub returns : goal.returns
returns c = law
