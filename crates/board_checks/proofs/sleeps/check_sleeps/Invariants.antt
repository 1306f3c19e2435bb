use Rattle.std.proofs.Common.{◌≡◌, ℕ, ◌<◌, None, length}
use Rattle.std.specs.Prelude.{find}
use Rattle.std.specs.List.{range_with_len}
use Rattle.board_checks.specs.Asleep.{are_apart_asleep}
use Rattle.board_checks.proofs.sleeps.check_sleeps.Given as goal

abbrev pub invariant-loop-a : goal.invariant-loop-a
invariant-loop-a l = (k : ℕ) → k < l.a → find (are_apart_asleep l.board k) (range_with_len 0 (length l.board.rails)) ≡ None
