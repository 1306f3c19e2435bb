use Rattle.board_checks.proofs.GapLaws.{no_gap_fault as law}
use Rattle.board_checks.proofs.laws.no_gap_fault.Goals as goal

pub returns : goal.returns
returns c = law
