use Rattle.std.proofs.Common.{ℕ, ◌<◌}
use Rattle.rail_law.specs.Inside.{shown, KeepsSpread}
use Rattle.rail_law.proofs.law.keeps_spreads.Given as goal

-- the spreads to the rails so far are kept
abbrev pub invariant-loop-other : goal.invariant-loop-other
invariant-loop-other l = (k : ℕ) → k < l.other → KeepsSpread l.board (shown l.write l.regs) l.r k
