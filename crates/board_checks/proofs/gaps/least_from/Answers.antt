use Rattle.std.proofs.Common.{None, Some}
use Rattle.board.specs.Rail.{choices}
use Rattle.board.proofs.Best.{high_nearest}
use Rattle.board_checks.proofs.gaps.least_from.Goals as goal

pub returns-in-Some : goal.returns-in-Some
returns-in-Some c = high_nearest c.args.uv (choices c.args.rail.now) (Some c.in-Some.pick) c.in-Some.ensures.pick

pub returns-in-None : goal.returns-in-None
returns-in-None c = high_nearest c.args.uv (choices c.args.rail.now) None c.in-None.ensures.pick
