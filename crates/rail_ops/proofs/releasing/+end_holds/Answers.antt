use Rattle.std.proofs.Common.{ℕ, List, sym, ◌∙◌, subst, arith}
use Rattle.std.specs.Prelude.{Contains}
use Rattle.rail_ops.proofs.releasing.+end_holds.Goals as goal

pub end_holds-requires : goal.end_holds-requires
end_holds-requires g t c κs within =
    let same = c.end_hold.ensures.ended in
    (omega (arith, c.decreases, c.if-count-eq0.false), (within, (c.requires.valid, (c.end_hold.ensures.fits, (same.board ∙ c.requires.board, (omega (arith, c.requires.within), λ i inside. subst (λ (rs : List ℕ). Contains rs i) (sym same.rails) (c.requires.held i inside)))))))
