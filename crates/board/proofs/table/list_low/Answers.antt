use Rattle.std.proofs.Common.{◌∙◌}
use Rattle.board.proofs.Lists.{low_value}
use Rattle.board.proofs.table.list_low.Goals as goal

pub returns-clause-value : goal.returns-clause-value
returns-clause-value c =
    low_value c.args.list.now c.args.uv c.pick_of.result c.laws_of.ensures.low c.laws_of.ensures.listed (c.pick_of.ensures ∙ c.selector_low.ensures)
