use Rattle.std.proofs.Common.{◌∙◌, ◌++◌, ◌∷◌, [], ap, List, ℕ, arith}
use Rattle.name_map.specs.NameEntries.{size_of}
use Rattle.name_map.specs.Inside.Listed.{named}
use Rattle.name_map.proofs.ListedLemmas.{bytes-size, named-push}
use Rattle.name_map.proofs.name_list.NameList.push.Goals as goal

pub push-requires-2 : goal.push-requires-2
push-requires-2 g c =
    omega (arith, c.requires.room, bytes-size c.self.inside.entries.items c.self.inside.names c.self.invariant, ap size_of c.self.view_is)

pub returns-in-Ok-clause-ok : goal.returns-in-Ok-clause-ok
returns-in-Ok-clause-ok g c =
    let es = c.self.inside.entries.items in
    let names = c.self.inside.names in
    ap (λ (xs : List (ℕ × g.row.V.Denot)). named xs c.push-2.new.self) c.in_ok-push.ensures.items
    ∙ ap (named (es ++ (c.args.owner, c.args.value) ∷ [])) c.in-Ok.ensures.ok
    ∙ named-push es names c.args.owner c.args.name.now c.args.value c.self.invariant
    ∙ ap (λ (xs : List ((ℕ × List ℕ) × g.row.V.Denot)). xs ++ ((c.args.owner, c.args.name.now), c.args.value) ∷ []) c.self.view_is
