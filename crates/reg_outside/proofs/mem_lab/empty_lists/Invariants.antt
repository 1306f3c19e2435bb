use Rattle.std.proofs.Common.{◌≡◌, [], length, All}
use Rattle.reg_outside.proofs.mem_lab.empty_lists.Given as goal

abbrev pub invariant-loop : goal.invariant-loop
invariant-loop l = (length l.lists.items ≡ l.counter) × All (λ list. list ≡ []) l.lists.items
