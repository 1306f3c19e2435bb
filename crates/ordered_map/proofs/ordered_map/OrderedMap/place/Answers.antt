use Rattle.std.proofs.Common.{◌∙◌, ap}
use Rattle.ordered_map.specs.Entries.{place_of}
use Rattle.ordered_map.proofs.EntryLemmas.{place-within}
use Rattle.ordered_map.proofs.ordered_map.OrderedMap.place.Goals as goal

pub returns-clause-inside : goal.returns-clause-inside
returns-clause-inside g c = place-within (g.K.PartialEq.eq c.args.key.now) c.args.self.now c.copied.result (c.copied.ensures ∙ c.get.ensures.value ∙ c.self.invariant.found c.args.key.now ∙ ap (place_of (g.K.PartialEq.eq c.args.key.now)) c.self.view_is)
