use Rattle.std.proofs.Common.{Some, None}
use Rattle.board.specs.Rail.{choices}
use Rattle.board.proofs.Nearest.{nearest_tells}
use Rattle.board.proofs.rail.Rail.allows.Goals as goal

pub returns-in-Some : goal.returns-in-Some
returns-in-Some c = nearest_tells c.args.uv (choices c.args.self.now) c.at_or_above.result (Some c.in-Some.pick) c.at_or_above.ensures.pick c.in-Some.is

pub returns-in-None : goal.returns-in-None
returns-in-None c = nearest_tells c.args.uv (choices c.args.self.now) c.at_or_above.result None c.at_or_above.ensures.pick c.in-None.is
