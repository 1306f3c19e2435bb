use Rattle.use_counts.proofs.Sums.{share-enables, share-drawn, kept-remove}
use Rattle.use_counts.proofs.rail_use.RailUse.remove.Goals as goal

pub overflow_sub-self : goal.overflow_sub-self
overflow_sub-self c = rw c.from.ensures (share-enables c.self.invariant c.args.at c.remove-row.result c.remove-row.ensures.item)

pub overflow_sub-self-2 : goal.overflow_sub-self-2
overflow_sub-self-2 c = rw c.drawn.ensures.is (share-drawn c.self.invariant c.args.at c.remove-row.result c.remove-row.ensures.item)

pub invariant_of-self : goal.invariant_of-self
invariant_of-self c =
    rw (c.remove-row.ensures.rest, c.from.ensures, c.drawn.ensures.is)
    (kept-remove c.self.invariant c.args.at c.remove-row.result c.remove-row.ensures.item)
