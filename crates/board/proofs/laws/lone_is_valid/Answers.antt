use Rattle.board.proofs.Lone.{lone_valid}
use Rattle.board.proofs.laws.lone_is_valid.Goals as goal

pub returns : goal.returns
returns c = lone_valid c.args.board.now c.requires
