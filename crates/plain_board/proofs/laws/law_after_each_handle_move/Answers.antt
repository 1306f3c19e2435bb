use Rattle.plain_board.proofs.HandleCallLaws.{law_after_each_handle_move_lem}
use Rattle.plain_board.proofs.laws.law_after_each_handle_move.Goals as goal

pub returns : goal.returns
returns c = law_after_each_handle_move_lem
