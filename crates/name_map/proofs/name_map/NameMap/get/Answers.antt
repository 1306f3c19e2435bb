use Rattle.std.proofs.Common.{ℕ, List, ◌∙◌, ap, map, sym}
use Rattle.std.specs.List.{slice_get}
use Rattle.ordered_map.proofs.EntryLemmas.{place-missing}
use Rattle.name_map.specs.NameEntries.{same_name}
use Rattle.name_map.proofs.KeptLemmas.{lookup-place}
use Rattle.name_map.proofs.name_map.NameMap.get.Goals as goal

pub returns-in-Some : goal.returns-in-Some
returns-in-Some g c =
    c.value.ensures
    ∙ ap (λ xs. slice_get (map (λ (e : (ℕ × List ℕ) × g.row.V.Denot). e.1) xs) c.in-Some.place) c.list.ensures
    ∙ sym (lookup-place (same_name (c.args.owner, c.args.name.now)) c.args.self.now c.in-Some.place (sym c.in-Some.ensures.place))

pub returns-in-None : goal.returns-in-None
returns-in-None g c = sym (place-missing (same_name (c.args.owner, c.args.name.now)) c.args.self.now (sym c.in-None.ensures.place))
