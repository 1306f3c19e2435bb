use Rattle.std.proofs.Common.{◌≡◌, ◌∙◌, ◌-◌, ap, sym, length, take, List, ℕ}
use Rattle.name_map.specs.Inside.Listed.{named}
use Rattle.name_map.proofs.ListedLemmas.{named-length, named-take}
use Rattle.name_map.proofs.name_list.NameList.pop.Goals as goal

pub returns : goal.returns
returns g c =
    let es = c.self.inside.entries.items in
    let names = c.self.inside.names in
    let long : length es ≡ length c.args.self.now = sym (named-length es names c.self.invariant) ∙ ap length c.self.view_is in
    ap (λ (xs : List (ℕ × g.row.V.Denot)). named xs c.pop-2.new.self) (c.pop.ensures.rest ∙ ap (λ (n : ℕ). take (n - 1) es) (c.self.inside.entries.ok.0 ∙ long))
    ∙ ap (named (take (length c.args.self.now - 1) es)) (c.pop-2.ensures ∙ ap (λ (n : ℕ). take (n - 1) names) (c.self.invariant ∙ long))
    ∙ named-take (length c.args.self.now - 1) es names
    ∙ ap (take (length c.args.self.now - 1)) c.self.view_is
