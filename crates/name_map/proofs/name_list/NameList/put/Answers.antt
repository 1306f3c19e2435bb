use Rattle.std.proofs.Common.{ℕ, ◌∙◌, ◌<◌, List, ap, length, set, get_or, arith}
use Rattle.name_map.specs.Inside.Listed.{named}
use Rattle.name_map.proofs.ListedLemmas.{named-length, named-set}
use Rattle.name_map.proofs.name_list.NameList.put.Goals as goal

pub index_mut-requires : goal.index_mut-requires
index_mut-requires g c =
    omega (arith, c.requires, ap length c.self.view_is, named-length c.self.inside.entries.items c.self.inside.names c.self.invariant, c.self.inside.entries.ok.0)

pub returns : goal.returns
returns g c = λ e.
    let es = c.self.inside.entries.items in
    let names = c.self.inside.names in
    let inside : c.args.place < length es = omega (arith, c.requires, ap length c.self.view_is, named-length es names c.self.invariant) in
    ap (λ (x : ℕ × g.row.V.Denot). named (set es c.args.place (x.0, c.args.value)) names) c.index_mut.ensures.value
    ∙ named-set es names c.args.place c.args.value c.index_mut.result.now e c.self.invariant inside
    ∙ ap (λ (xs : List ((ℕ × List ℕ) × g.row.V.Denot)). set xs c.args.place ((get_or xs c.args.place e).0, c.args.value)) c.self.view_is
