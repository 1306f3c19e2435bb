use Rattle.std.proofs.Common.{arith}
use Rattle.reg_outside.proofs.mem_source.MemSourceSource.read.Goals as goal

pub returns-then-refuses_next-clause-err : goal.returns-then-refuses_next-clause-err
returns-then-refuses_next-clause-err c = grind arith
