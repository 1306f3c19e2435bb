use Rattle.plain_board.proofs.CallLaws.{law_after_each_move_lem}
use Rattle.plain_board.proofs.laws.law_after_each_move.Goals as goal

pub returns : goal.returns
returns c = law_after_each_move_lem
