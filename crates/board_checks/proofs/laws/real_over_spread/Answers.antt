use Rattle.board_checks.proofs.GapLaws.{real_over_spread as law}
use Rattle.board_checks.proofs.laws.real_over_spread.Goals as goal

pub returns : goal.returns
returns c = law
