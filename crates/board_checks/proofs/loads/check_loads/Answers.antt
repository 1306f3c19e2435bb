use Rattle.std.proofs.Common.{arith, sym, ◌∙◌}
use Rattle.board_checks.specs.Loads.{is_overloaded}
use Rattle.board_checks.specs.Rails.{tests_rail}
use Rattle.board_checks.proofs.Rails.{is_number}
use Rattle.board_checks.proofs.LoadLaws.{loads_carried}
use Rattle.board_checks.proofs.loads.check_loads.Goals as goal

pub overflow_cast-result : goal.overflow_cast-result
overflow_cast-result c = omega (arith, is_number c.args.board.now (tests_rail is_overloaded c.args.board.now) c.in_ok-r.r c.requires.few c.requires.graph (sym c.first_overloaded.ensures ∙ c.in_ok-r.was))

pub returns-in_err-r-clause-carried : goal.returns-in_err-r-clause-carried
returns-in_err-r-clause-carried c = λ _. loads_carried c.args.board.now c.requires.graph (sym c.first_overloaded.ensures ∙ c.in_err-r.was)
