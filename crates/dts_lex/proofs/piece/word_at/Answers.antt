use Rattle.std.proofs.Common.{arith}
use Rattle.dts_lex.specs.Piece.{word_at}
use Rattle.dts_lex.proofs.piece.word_at.Goals as goal

pub returns-then-begins_line : goal.returns-then-begins_line
unfolding word_at
returns-then-begins_line c = grind arith

pub returns-else-is_preprocessor : goal.returns-else-is_preprocessor
unfolding word_at
returns-else-is_preprocessor c = grind arith
