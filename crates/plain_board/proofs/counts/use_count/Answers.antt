use Rattle.std.proofs.Common.{arith}
use Rattle.plain_board.proofs.counts.use_count.Goals as goal

pub returns : goal.returns
returns c = grind arith
