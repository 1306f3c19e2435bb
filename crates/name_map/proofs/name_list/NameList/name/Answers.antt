use Rattle.std.proofs.Common.{ℕ, ◌∙◌, ap, sym, map, length, get_or, List, [], arith}
use Rattle.name_map.proofs.ListedLemmas.{named-length, named-names}
use Rattle.name_map.proofs.name_list.NameList.name.Goals as goal

pub get-requires : goal.get-requires
get-requires g c =
    omega (arith, c.requires, ap length c.self.view_is, named-length c.self.inside.entries.items c.self.inside.names c.self.invariant, c.self.invariant)

pub returns : goal.returns
returns g c =
    ap (λ xs. get_or (map (λ (e : (ℕ × List ℕ) × g.row.V.Denot). e.0.1) xs) c.args.place []) (sym c.self.view_is)
    ∙ ap (λ xs. get_or xs c.args.place []) (named-names c.self.inside.entries.items c.self.inside.names c.self.invariant)
    ∙ c.get.ensures
