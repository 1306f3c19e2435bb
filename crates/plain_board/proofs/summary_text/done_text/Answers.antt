use Rattle.std.proofs.Common.{append_assoc}
use Rattle.plain_board.proofs.summary_text.done_text.Goals as goal

pub returns : goal.returns
returns c = simp append_assoc c.format.ensures.ok
