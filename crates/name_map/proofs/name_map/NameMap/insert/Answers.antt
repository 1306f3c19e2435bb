use Rattle.std.proofs.Common.{◌<◌, ◌∙◌, ap, length, List, ℕ, arith}
use Rattle.name_map.specs.NameEntries.{same_name, place_of}
use Rattle.name_map.proofs.KeptLemmas.{insert-put, kept-values}
use Rattle.name_map.proofs.name_map.NameMap.insert.Goals as goal

pub invariant_of-self : goal.invariant_of-self
invariant_of-self g c =
    let es = c.self.inside.list in
    let e : (ℕ × List ℕ) × g.row.V.Denot = ((c.args.owner, c.args.name.now), c.args.value) in
    let inside : c.in_ok-place.place < length es = omega (arith, c.in_ok-place.ensures.inside, ap length c.self.view_is) in
    rw (c.put.ensures e) (kept-values c.self.inside.edges c.self.inside.places es c.in_ok-place.place e c.args.value inside c.self.invariant)

pub returns-clause-ok : goal.returns-clause-ok
returns-clause-ok g c =
    let es = c.self.inside.list in
    let e : (ℕ × List ℕ) × g.row.V.Denot = ((c.args.owner, c.args.name.now), c.args.value) in
    c.put.ensures e
    ∙ insert-put c.args.self.now es (c.args.owner, c.args.name.now) c.args.value c.in_ok-place.place e
    (c.self.view_is ∙ c.in_ok-place.ensures.ok)
    (ap (place_of (same_name (c.args.owner, c.args.name.now))) c.self.view_is ∙ c.in_ok-place.ensures.place)
