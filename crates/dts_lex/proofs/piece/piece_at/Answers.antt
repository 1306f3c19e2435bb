use Rattle.std.proofs.Common.{arith}
use Rattle.dts_lex.specs.Piece.{piece_at}
use Rattle.dts_lex.proofs.piece.piece_at.Goals as goal

pub returns-then-comma_alone : goal.returns-then-comma_alone
unfolding piece_at
returns-then-comma_alone c = grind arith

pub returns-else-comma_alone : goal.returns-else-comma_alone
unfolding piece_at
returns-else-comma_alone c = grind arith
