use Rattle.std.proofs.Common.{◌↔◌, IsTrue, not, ◌||◌, sym, ap, ◌∙◌, subst}
use Rattle.std.specs.Prelude.{slice_get}
use Rattle.rail_law.specs.Inside.{shown, HasSupplyOn}
use Rattle.rail_law.proofs.Judged.{supply_judged}
use Rattle.rail_law.proofs.law.has_supply_on.Goals as goal

pub returns-else-not-on : goal.returns-else-not-on
returns-else-not-on c =
    let board = c.args.board.now in
    let regs = shown c.args.write c.args.regs.now in
    subst (λ on. IsTrue (not on || c.on_at-supply_on.result) ↔ HasSupplyOn board regs c.args.r) c.if-not-on.false
    (supply_judged board regs c.args.r c.in-Some.upper c.on_at-on.result c.on_at-supply_on.result (sym c.in-Some.ensures.supply) c.requires.rail c.in-Some.ensures.rail
    c.on_at-on.ensures (λ rail at. c.on_at-supply_on.ensures rail (ap (slice_get board.rails) c.from.ensures ∙ at)))
