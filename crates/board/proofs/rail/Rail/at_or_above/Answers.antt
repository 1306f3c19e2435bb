use Rattle.std.proofs.Common.{leb, sym, ap, ◌∙◌}
use Rattle.linear_range.specs.Values.{pick_high}
use Rattle.board.specs.Table.{values_of, passing}
use Rattle.board.proofs.Choices.{high-free, high-bounded}
use Rattle.board.proofs.rail.Rail.at_or_above.Goals as goal

pub returns-in-Some-clause-pick : goal.returns-in-Some-clause-pick
returns-in-Some-clause-pick c =
    let table = values_of c.args.self.now.desc.table in
    c.not_above.ensures ∙ ap (passing (λ v. leb v c.in-Some.greatest)) (c.selector_high.ensures.pick ∙ ap (pick_high table) c.max.ensures)
    ∙ sym (high-bounded c.args.self.now c.in-Some.least c.in-Some.greatest c.args.uv c.if-not-self.false c.in-Some.is)

pub returns-in_default-clause-pick : goal.returns-in_default-clause-pick
returns-in_default-clause-pick c = c.selector_high-in_default.ensures.pick ∙ sym (high-free c.args.self.now c.args.uv c.if-not-self.false c.in_default.is)
