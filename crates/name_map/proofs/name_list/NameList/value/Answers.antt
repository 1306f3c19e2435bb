use Rattle.std.proofs.Common.{ℕ, ◌∙◌, ap, refl, sym, map, length, List}
use Rattle.std.specs.List.{slice_get}
use Rattle.std.specs.Option.{option_map}
use Rattle.std.proofs.lemmas.Option.{slice_get-map, slice_get_past, slice_get_read}
use Rattle.name_map.proofs.ListedLemmas.{named-values}
use Rattle.name_map.proofs.name_list.NameList.value.Goals as goal

pub returns-in-Some : goal.returns-in-Some
returns-in-Some g c =
    let es = c.self.inside.entries.items in
    let xs = c.deref.result.now in
    let found = c.in-Some.ensures.lookup in
    ap (option_map (λ (e : ℕ × g.row.V.Denot). e.1)) (sym (slice_get_read xs (length xs) c.args.place c.in-Some.entry.now refl found.3.0 found.1) ∙ ap (λ ys. slice_get ys c.args.place) c.deref.ensures.value)
    ∙ sym (slice_get-map (λ (e : ℕ × g.row.V.Denot). e.1) es c.args.place)
    ∙ ap (λ ys. slice_get ys c.args.place) (sym (named-values es c.self.inside.names c.self.invariant))
    ∙ ap (λ ys. slice_get (map (λ (e : (ℕ × List ℕ) × g.row.V.Denot). e.1) ys) c.args.place) c.self.view_is

pub returns-in-None : goal.returns-in-None
returns-in-None g c =
    let es = c.self.inside.entries.items in
    let xs = c.deref.result.now in
    ap (option_map (λ (e : ℕ × g.row.V.Denot). e.1)) (sym (slice_get_past xs c.args.place c.in-None.ensures.lookup.3) ∙ ap (λ ys. slice_get ys c.args.place) c.deref.ensures.value)
    ∙ sym (slice_get-map (λ (e : ℕ × g.row.V.Denot). e.1) es c.args.place)
    ∙ ap (λ ys. slice_get ys c.args.place) (sym (named-values es c.self.inside.names c.self.invariant))
    ∙ ap (λ ys. slice_get (map (λ (e : (ℕ × List ℕ) × g.row.V.Denot). e.1) ys) c.args.place) c.self.view_is
