use Rattle.std.proofs.Common.{◌≡◌, ◌≤◌, ◌-◌, length, take}
use Rattle.reg_outside.specs.Told.{with_more}
use Rattle.regulator_main.proofs.output.write_text.Given as goal

-- what was kept so far is written, and nothing failed
abbrev pub invariant-loop-kept : goal.invariant-loop-kept
invariant-loop-kept g l = (l.kept ≤ length l.text)
    × (g.K.Sink.written l.sink ≡ with_more (g.K.Sink.written l.fn.sink) (take l.kept l.text))
    × (g.K.Sink.faults l.sink ≡ g.K.Sink.faults l.fn.sink)

abbrev pub decreases-loop-kept : goal.decreases-loop-kept
decreases-loop-kept g l = length l.text - l.kept
