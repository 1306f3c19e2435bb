use Rattle.std.proofs.Common.{◌≡◌, map, take}
use Rattle.use_counts.specs.Book.{Book}
use Rattle.rail_ops.proofs.alone.holds_of.Given as goal

abbrev pub invariant-loop-state : goal.invariant-loop-state
invariant-loop-state l = l.holds ≡ map (λ (book : Book). book.held) (take l.state-index l.states)
