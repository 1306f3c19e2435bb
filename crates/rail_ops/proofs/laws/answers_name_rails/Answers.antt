use Rattle.rail_ops.proofs.Answered.{answer_rails}
use Rattle.rail_ops.proofs.laws.answers_name_rails.Goals as goal

pub returns : goal.returns
returns c board plain worker call stop is = answer_rails board plain worker call is stop
