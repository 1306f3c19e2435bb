use Rattle.std.proofs.Common.{◌∙◌, ◌-◌, ap, sym, subst, length, take, vec_len, List, ℕ, arith}
use Rattle.name_map.specs.Inside.Shelved.{names_from, last_end, Rises}
use Rattle.name_map.proofs.ShelfLemmas.{last-take, names-length, names-take, rises-take}
use Rattle.name_map.proofs.shelf.Shelf.pop.Goals as goal

pub invariant_of-self : goal.invariant_of-self
invariant_of-self c =
    let ends = c.self.inside.ends.items in
    let rest = c.pop.ensures.rest in (
      subst (Rises 0) (sym rest) (rises-take (vec_len c.self.inside.ends - 1) 0 ends c.self.invariant.0),
      omega (arith, ap (last_end 0) rest, last-take (vec_len c.self.inside.ends - 1) 0 ends c.self.invariant.0, c.self.invariant.1),
    )

pub returns : goal.returns
returns c =
    let ends = c.self.inside.ends.items in
    let bytes = c.self.inside.bytes.items in
    ap (λ (xs : List ℕ). names_from 0 xs bytes) c.pop.ensures.rest
    ∙ ap (λ (n : ℕ). names_from 0 (take (n - 1) ends) bytes) (c.self.inside.ends.ok.0 ∙ sym (names-length 0 ends bytes) ∙ ap length c.self.view_is)
    ∙ names-take (length c.args.self.now - 1) 0 ends bytes
    ∙ ap (take (length c.args.self.now - 1)) c.self.view_is
