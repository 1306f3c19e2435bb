use Rattle.std.proofs.Common.{◌≡◌, ◌+◌, ◌-◌, ◌++◌, ◌∷◌, [], length, get_or, arith, ap, ◌∙◌}
use Rattle.std.specs.Prelude.{remove}
use Rattle.std.proofs.lemmas.List.{length-set}
use Rattle.request_set.proofs.Places.{remove-moved, set-last}
use Rattle.request_set.proofs.request_set.put_last.Goals as goal

pub loop-next-preserved : goal.loop-next-preserved
loop-next-preserved c =
    let moved = c.index-as_slice-next.result in
    let next = c.loop-next.next + 1 in
    record {
      rest =
          ap (λ rows. remove rows next) c.set.ensures
          ∙ remove-moved c.loop-next.rows c.loop-next.next moved (omega (arith, c.loop-next-test.true, c.len-last.ensures, c.loop-next.invariant.same)) (c.index-as_slice-next.is ∙ ap (λ rows. get_or rows next moved) c.as_slice.ensures)
          ∙ c.loop-next.invariant.rest;
      same = ap length c.set.ensures ∙ length-set c.loop-next.rows c.loop-next.next moved ∙ c.loop-next.invariant.same;
    }

pub returns : goal.returns
returns c =
    let last : c.len-last.result - 1 ≡ c.loop-next.next = omega (arith, c.loop-next-test.false, c.loop-next.auto.next-end, c.loop-next.auto.next, c.requires, c.len-last.ensures) in
    c.set-2.ensures
    ∙ set-last c.loop-next.rows (c.len-last.result - 1) c.args.row (omega (arith, c.requires, c.len-last.ensures, c.loop-next.invariant.same))
    ∙ ap (λ rest. rest ++ c.args.row ∷ []) (ap (remove c.loop-next.rows) last ∙ c.loop-next.invariant.rest)
