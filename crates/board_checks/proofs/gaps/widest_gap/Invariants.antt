use Rattle.std.proofs.Common.{◌-◌, ◌^◌}
use Rattle.board.specs.Rail.{allowed}
use Rattle.board_checks.proofs.WidestGap.{IsWidestUpTo}
use Rattle.board_checks.proofs.gaps.widest_gap.Given as goal

abbrev pub invariant-loop-high : goal.invariant-loop-high
invariant-loop-high l = IsWidestUpTo (allowed l.rail) l.low l.widest

abbrev pub decreases-loop-high : goal.decreases-loop-high
decreases-loop-high l = 2 ^ 32 - l.low
