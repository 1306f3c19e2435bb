use Rattle.board.proofs.Picks.{high_value}
use Rattle.board.proofs.table.ranges_high.Goals as goal

pub returns-clause-value : goal.returns-clause-value
returns-clause-value c = high_value c.args.ranges.now c.args.uv c.selector_high.result c.laws_of.ensures.high c.laws_of.ensures.listed c.selector_high.ensures
