use Rattle.std.proofs.Common.{ℕ, ◌<◌}
use Rattle.rail_law.specs.Inside.{shown, HoldsFor}
use Rattle.rail_law.proofs.law.holds.Given as goal

-- the rails so far keep the law
abbrev pub invariant-loop-r : goal.invariant-loop-r
invariant-loop-r l = (k : ℕ) → k < l.r → HoldsFor l.board (shown l.write l.regs) k
