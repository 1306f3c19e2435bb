use Rattle.std.proofs.Common.{leb, sym, ap, ◌∙◌}
use Rattle.linear_range.specs.Values.{pick_low}
use Rattle.board.specs.Table.{values_of, passing}
use Rattle.board.proofs.Choices.{low-free, low-bounded}
use Rattle.board.proofs.rail.Rail.at_or_below.Goals as goal

pub returns-in-Some-clause-pick : goal.returns-in-Some-clause-pick
returns-in-Some-clause-pick c =
    let table = values_of c.args.self.now.desc.table in
    c.not_below.ensures ∙ ap (passing (leb c.in-Some.least)) (c.selector_low.ensures.pick ∙ ap (pick_low table) c.min.ensures)
    ∙ sym (low-bounded c.args.self.now c.in-Some.least c.in-Some.greatest c.args.uv c.if-not-self.false c.in-Some.is)

pub returns-in_default-clause-pick : goal.returns-in_default-clause-pick
returns-in_default-clause-pick c = c.selector_low-in_default.ensures.pick ∙ sym (low-free c.args.self.now c.args.uv c.if-not-self.false c.in_default.is)
