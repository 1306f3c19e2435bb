use Rattle.std.proofs.Common.{ap, sym, ◌∙◌}
use Rattle.linear_range.specs.Values.{pick_high}
use Rattle.board.specs.Fields.{choices_at, choices_of}
use Rattle.board.proofs.Best.{high_nearest}
use Rattle.board.proofs.board.Board.at_or_above.Goals as goal

pub returns-clause-nearest : goal.returns-clause-nearest
returns-clause-nearest c =
    high_nearest c.args.uv (choices_at c.args.self.now c.args.r.0) c.at_or_above.result
    (c.at_or_above.ensures.pick ∙ ap (λ rail. pick_high (choices_of rail) c.args.uv) (sym c.rail.ensures))
