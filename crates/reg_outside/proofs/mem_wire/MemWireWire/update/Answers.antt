use Rattle.std.proofs.Common.{arith}
use Rattle.reg_outside.proofs.mem_wire.MemWireWire.update.Goals as goal

pub returns-then-refused-clause-err : goal.returns-then-refused-clause-err
returns-then-refused-clause-err c = grind arith
