use Rattle.std.proofs.Common.{arith, sym, ◌∙◌}
use Rattle.board_checks.specs.GapFault.{is_over_spread}
use Rattle.board_checks.proofs.Rails.{is_number}
use Rattle.board_checks.proofs.gaps.gap_over_spread.Goals as goal

pub overflow_cast-result : goal.overflow_cast-result
overflow_cast-result c = omega (arith, is_number c.args.board.now (is_over_spread c.args.board.now) c.in_ok-r.r c.requires.few c.requires.graph (sym c.first_over_spread.ensures ∙ c.in_ok-r.was))
