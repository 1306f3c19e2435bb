use Rattle.rail_ops.proofs.NeededRails.{needs_within}
use Rattle.rail_ops.proofs.laws.calls_need_rails_of_the_board.Goals as goal

pub returns : goal.returns
returns c board plain worker i call valid inv there has = needs_within board valid plain inv worker i call there has
