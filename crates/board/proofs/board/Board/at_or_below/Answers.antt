use Rattle.std.proofs.Common.{ap, sym, ◌∙◌}
use Rattle.linear_range.specs.Values.{pick_low}
use Rattle.board.specs.Fields.{choices_at, choices_of}
use Rattle.board.proofs.Best.{low_nearest}
use Rattle.board.proofs.board.Board.at_or_below.Goals as goal

pub returns-clause-nearest : goal.returns-clause-nearest
returns-clause-nearest c =
    low_nearest c.args.uv (choices_at c.args.self.now c.args.r.0) c.at_or_below.result
    (c.at_or_below.ensures.pick ∙ ap (λ rail. pick_low (choices_of rail) c.args.uv) (sym c.rail.ensures))
