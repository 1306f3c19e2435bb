use Rattle.std.proofs.Common.{◌∙◌, ap, sym}
use Rattle.ordered_map.proofs.EntryLemmas.{place-within}
use Rattle.name_map.specs.NameEntries.{same_name, place_of}
use Rattle.name_map.proofs.KeptLemmas.{stands-by, stands-off}
use Rattle.name_map.proofs.name_map.NameMap.place.Goals as goal

pub returns-in-Some-clause-place : goal.returns-in-Some-clause-place
returns-in-Some-clause-place g c =
    c.copied.ensures
    ∙ c.get.ensures.value
    ∙ c.self.invariant.found c.in-Some.key
    ∙ stands-by c.self.inside.edges (c.args.owner, c.args.name.now) c.in-Some.key (sym c.in-Some.ensures) c.self.inside.list c.self.invariant.coded
    ∙ ap (place_of (same_name (c.args.owner, c.args.name.now))) c.self.view_is

pub returns-in-Some-clause-inside : goal.returns-in-Some-clause-inside
returns-in-Some-clause-inside g c = place-within (same_name (c.args.owner, c.args.name.now)) c.args.self.now c.copied.result (returns-in-Some-clause-place g c)

pub returns-in-None-clause-place : goal.returns-in-None-clause-place
returns-in-None-clause-place g c =
    sym (stands-off c.self.inside.edges (c.args.owner, c.args.name.now) (sym c.in-None.ensures) c.self.inside.list c.self.invariant.coded)
    ∙ ap (place_of (same_name (c.args.owner, c.args.name.now))) c.self.view_is
