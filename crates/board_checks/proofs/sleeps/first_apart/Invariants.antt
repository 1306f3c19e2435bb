use Rattle.std.proofs.Common.{◌≡◌, ℕ, ◌<◌, false}
use Rattle.board_checks.specs.Asleep.{are_apart_asleep}
use Rattle.board_checks.proofs.sleeps.first_apart.Given as goal

abbrev pub invariant-loop-b : goal.invariant-loop-b
invariant-loop-b l = (k : ℕ) → k < l.b → are_apart_asleep l.board l.a k ≡ false
