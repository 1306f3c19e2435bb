use Rattle.std.proofs.Common.{arith}
use Rattle.dts_lex.specs.Number.{number_of}
use Rattle.dts_lex.proofs.number.number_of.Goals as goal

pub returns-then-starts_with-2 : goal.returns-then-starts_with-2
unfolding number_of
returns-then-starts_with-2 c = grind arith
