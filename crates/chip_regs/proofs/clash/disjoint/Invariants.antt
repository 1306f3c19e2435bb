use Rattle.std.proofs.Common.{ℕ, ◌<◌}
use Rattle.chip_regs.specs.Clash.{ClashesAt}
use Rattle.chip_regs.proofs.clash.disjoint.Given as goal

-- no field before this one clashes with a later one
abbrev pub invariant-loop-first : goal.invariant-loop-first
invariant-loop-first l = (i : ℕ) → i < l.first → (j : ℕ) → ¬ ClashesAt l.fields i j

-- nor does this one with a field so far
abbrev pub invariant-loop-second : goal.invariant-loop-second
invariant-loop-second l = (j : ℕ) → j < l.second → ¬ ClashesAt l.fields l.first j
