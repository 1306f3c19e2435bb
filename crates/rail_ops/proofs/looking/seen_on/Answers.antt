use Rattle.std.proofs.Common.{◌<◌, length, sym, subst}
use Rattle.board.specs.declared.board.Board.{Board}
use Rattle.rail_ops.proofs.Reading.{enable_there}
use Rattle.rail_ops.proofs.looking.seen_on.Goals as goal

pub see-requires-clause-there : goal.see-requires-clause-there
see-requires-clause-there g c =
    enable_there (g.R.Rails.board c.args.rails.now) c.args.r.0 (subst (λ (b : Board). c.args.r.0 < length b.rails) (sym c.requires.board) c.requires.there)
