use Rattle.board_checks.proofs.WidestGap.{widest_gap_is_lem}
use Rattle.board_checks.proofs.laws.widest_gap_is.Goals as goal

pub returns : goal.returns
returns c = widest_gap_is_lem
