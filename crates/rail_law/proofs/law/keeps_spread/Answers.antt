use Rattle.std.proofs.Common.{◌↔◌, IsTrue, leb, ◌+◌, sym, ◌∙◌, subst}
use Rattle.rail_law.specs.Inside.{shown, KeepsSpread}
use Rattle.rail_law.proofs.Judged.{spread_judged}
use Rattle.rail_law.proofs.law.keeps_spread.Goals as goal

pub returns : goal.returns
returns c =
    let board = c.args.board.now in
    let regs = shown c.args.write c.args.regs.now in
    subst (λ spread. IsTrue (leb c.from-high.result (c.from-low.result + spread)) ↔ KeepsSpread board regs c.args.r c.args.other) (sym c.from.ensures)
    (spread_judged board regs c.args.r c.args.other c.in-Some.spread c.from-high.result c.from-low.result c.in-Some.ensures c.requires.rail c.requires.other
    (λ rail at. c.from-high.ensures ∙ c.uv_at.ensures rail at) (λ rail at. c.from-low.ensures ∙ c.uv_at-2.ensures rail at))
