use Rattle.std.proofs.Common.{◌≡◌, map, take}
use Rattle.use_counts.specs.Book.{Book}
use Rattle.rail_ops.proofs.alone.events_of.Given as goal

abbrev pub invariant-loop-state : goal.invariant-loop-state
invariant-loop-state l = l.events ≡ map (λ (book : Book). book.events) (take l.state-index l.states)
