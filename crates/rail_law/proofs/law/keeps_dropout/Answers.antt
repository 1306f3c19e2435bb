use Rattle.std.proofs.Common.{◌↔◌, IsTrue, leb, ◌+◌, sym, ap, ◌∙◌, subst}
use Rattle.std.specs.Prelude.{slice_get}
use Rattle.rail_law.specs.Inside.{shown, KeepsDropout}
use Rattle.rail_law.proofs.Judged.{dropout_judged}
use Rattle.rail_law.proofs.law.keeps_dropout.Goals as goal

pub returns : goal.returns
returns c =
    let board = c.args.board.now in
    let regs = shown c.args.write c.args.regs.now in
    subst (λ dropout. IsTrue (leb (c.from-low.result + dropout) c.from-high.result) ↔ KeepsDropout board regs c.args.r) (sym (c.from-2.ensures ∙ c.dropout_of.ensures))
    (dropout_judged board regs c.args.r c.in-Some.upper c.from-low.result c.from-high.result (sym c.in-Some.ensures.supply) (sym c.is_linked.ensures ∙ c.if-not-is_linked.false) c.requires.rail c.in-Some.ensures.rail
    (λ rail at. c.from-low.ensures ∙ c.uv_at.ensures rail at) (λ rail at. c.from-high.ensures ∙ c.uv_at-2.ensures rail (ap (slice_get board.rails) c.from.ensures ∙ at)))
