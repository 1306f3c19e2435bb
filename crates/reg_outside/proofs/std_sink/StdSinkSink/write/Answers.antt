use Rattle.std.proofs.Common.{arith}
use Rattle.reg_outside.proofs.std_sink.StdSinkSink.write.Goals as goal

pub returns-in-Ok-clause-some : goal.returns-in-Ok-clause-some
returns-in-Ok-clause-some g c = omega arith
