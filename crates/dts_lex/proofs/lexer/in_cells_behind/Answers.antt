use Rattle.std.proofs.Common.{arith}
use Rattle.dts_lex.proofs.lexer.in_cells_behind.Goals as goal

pub returns-in-Sign-eq62 : goal.returns-in-Sign-eq62
returns-in-Sign-eq62 c = grind arith
