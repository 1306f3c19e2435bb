use Rattle.std.proofs.Common.{ℕ, ◌∙◌, ◌<◌, refl, ap, sym, map, length, List, arith}
use Rattle.std.specs.List.{slice_get}
use Rattle.std.specs.Option.{option_map}
use Rattle.std.proofs.lemmas.Option.{slice_get-map, slice_get_read}
use Rattle.name_map.proofs.ListedLemmas.{named-length, named-owners}
use Rattle.name_map.proofs.name_list.NameList.owner.Goals as goal

pub index-requires : goal.index-requires
index-requires g c =
    omega (arith, c.requires, ap length c.self.view_is, named-length c.self.inside.entries.items c.self.inside.names c.self.invariant, c.self.inside.entries.ok.0)

pub returns : goal.returns
returns g c =
    let es = c.self.inside.entries.items in
    let inside : c.args.place < length es = omega (arith, c.requires, ap length c.self.view_is, named-length es c.self.inside.names c.self.invariant) in
    ap (λ xs. slice_get (map (λ (e : (ℕ × List ℕ) × g.row.V.Denot). e.0.0) xs) c.args.place) (sym c.self.view_is)
    ∙ ap (λ xs. slice_get xs c.args.place) (named-owners es c.self.inside.names c.self.invariant)
    ∙ slice_get-map (λ (e : ℕ × g.row.V.Denot). e.0) es c.args.place
    ∙ ap (option_map (λ (e : ℕ × g.row.V.Denot). e.0)) (slice_get_read es (length es) c.args.place c.index.result.now refl inside c.index.ensures)
