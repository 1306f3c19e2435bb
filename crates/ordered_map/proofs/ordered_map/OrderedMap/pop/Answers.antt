use Rattle.std.proofs.Common.{List, subst}
use Rattle.ordered_map.specs.Entries.{Placed}
use Rattle.ordered_map.proofs.EntryLemmas.{placed-pop}
use Rattle.ordered_map.proofs.ordered_map.OrderedMap.pop.Goals as goal

pub invariant_of-self : goal.invariant_of-self
invariant_of-self g c =
    placed-pop g.K.PartialEq.eq g.K.Ord.cmp g.met.K.Eq.laws g.met.K.Ord.matches_eq c.pop.new.self.items c.in-Some.entry c.self.inside.places c.remove.new.self
    (subst (λ (es : List (g.row.K.Denot × g.row.V.Denot)). Placed g.K.PartialEq.eq g.K.Ord.cmp es c.self.inside.places) c.in-Some.ensures.items c.self.invariant)
    c.remove.ensures.updates.0
