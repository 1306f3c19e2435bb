use Rattle.board.proofs.Picks.{low_value}
use Rattle.board.proofs.table.ranges_low.Goals as goal

pub returns-clause-value : goal.returns-clause-value
returns-clause-value c = low_value c.args.ranges.now c.args.uv c.selector_low.result c.laws_of.ensures.low c.laws_of.ensures.listed c.selector_low.ensures
