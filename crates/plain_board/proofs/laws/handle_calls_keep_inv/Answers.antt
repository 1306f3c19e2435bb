use Rattle.plain_board.proofs.HandleCallLaws.{handle_calls_keep_inv_lem, handle_calls_keep_fields_lem}
use Rattle.plain_board.proofs.laws.handle_calls_keep_inv.Goals as goal

pub returns : goal.returns
returns c = record { inv = handle_calls_keep_inv_lem; fields = handle_calls_keep_fields_lem }
