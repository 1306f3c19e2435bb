use Rattle.std.proofs.Common.{sym, ◌∙◌}
use Rattle.board_graph.specs.Sets.{rails_of}
use Rattle.board_checks.specs.declared.fault.CheckFault.TheVariants.{GapOverSpread, GapOverStep}
use Rattle.std.specs.Prelude.{find}
use Rattle.board_checks.specs.GapFault.{gap_at, is_over_spread, is_over_step, step_at}
use Rattle.board_checks.specs.Rails.{spread_at}
use Rattle.board_checks.proofs.Rails.{map_none}
use Rattle.board_checks.proofs.GapLaws.{gaps_narrow}
use Rattle.board_checks.proofs.gaps.check_gaps.Goals as goal

pub returns-in-None-clause-narrow : goal.returns-in-None-clause-narrow
returns-in-None-clause-narrow c none =
    gaps_narrow c.args.board.now c.requires.graph
    (map_none (λ r. GapOverSpread r (gap_at c.args.board.now r) (spread_at c.args.board.now r)) (find (is_over_spread c.args.board.now) (rails_of c.args.board.now.graph)) (sym c.in-None.ensures))
    (map_none (λ r. GapOverStep r (gap_at c.args.board.now r) (step_at c.args.board.now r)) (find (is_over_step c.args.board.now) (rails_of c.args.board.now.graph)) (sym c.gap_over_step.ensures ∙ none))
