use Rattle.std.proofs.Common.{◌≡◌, ◌≤◌, ◌-◌, length}
use Rattle.reg_outside.specs.Told.{with_before}
use Rattle.regulator_main.proofs.input.read_input.Given as goal

-- what came so far was taken from the source, and nothing failed
abbrev pub invariant-pieces : goal.invariant-pieces
invariant-pieces g l = (length l.buffer ≡ 65536)
    × (length l.bytes.items ≤ 4194305)
    × (g.S.Source.left l.fn.source ≡ with_before l.bytes.items (g.S.Source.left l.source))
    × (g.S.Source.faults l.source ≡ g.S.Source.faults l.fn.source)

abbrev pub decreases-pieces : goal.decreases-pieces
decreases-pieces g l = 4194305 - length l.bytes.items
