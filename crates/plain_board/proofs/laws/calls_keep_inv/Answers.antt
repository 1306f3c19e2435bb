use Rattle.plain_board.proofs.CallLaws.{calls_keep_inv_lem, calls_keep_fields_lem}
use Rattle.plain_board.proofs.laws.calls_keep_inv.Goals as goal

pub returns : goal.returns
returns c = record { inv = calls_keep_inv_lem; fields = calls_keep_fields_lem }
