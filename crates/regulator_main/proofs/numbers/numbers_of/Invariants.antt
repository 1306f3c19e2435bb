use Rattle.std.proofs.Common.{◌≡◌, ℕ, eqb, take}
use Rattle.std.specs.List.{list_any}
use Rattle.plain_board.specs.Stops.{is_planned}
use Rattle.regulator_main.proofs.numbers.numbers_of.Given as goal

-- the numbers of the lines so far
abbrev pub invariant-loop-refusal : goal.invariant-loop-refusal
invariant-loop-refusal l = (number : ℕ) → list_any (λ planned. eqb planned number) l.numbers.items ≡ is_planned (take l.refusal-index l.refusals) l.worker number
