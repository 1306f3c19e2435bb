use Rattle.std.proofs.Common.{◌≡◌, drop}
use Rattle.board_draft.specs.Links.{has_twice}
use Rattle.board_draft.proofs.couples.has_twice.Given as goal

abbrev pub invariant-loop-k : goal.invariant-loop-k
invariant-loop-k l = has_twice l.numbers ≡ has_twice (drop l.k l.numbers)
