use Rattle.std.proofs.Common.{refl}
use Rattle.reg_outside.proofs.mem_sink.MemSinkSink.write.Goals as goal

pub returns-clause-ok : goal.returns-clause-ok
returns-clause-ok c =
    let appended = rw c.unwrap.ensures at c.extend_from_slice.ensures.items in
    rw (← c.self.view_is, appended, c.refuses_next-refused.ensures.counted) refl
