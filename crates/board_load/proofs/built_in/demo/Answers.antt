use Rattle.board_load.proofs.DemoFacts.{demo_lone, demo_has_values, demo_resets_name_chips}
use Rattle.board_load.proofs.LoneUntied.{lone_untied}
use Rattle.board_load.proofs.built_in.demo.Goals as goal

pub lone_is_valid-requires : goal.lone_is_valid-requires
lone_is_valid-requires c = demo_lone c.in_ok-board.board c.in_ok-board.ensures

pub returns-clause-inside : goal.returns-clause-inside
returns-clause-inside c = demo_has_values c.in_ok-board.board c.in_ok-board.ensures

pub returns-clause-untied : goal.returns-clause-untied
returns-clause-untied c = lone_untied c.in_ok-board.board (demo_lone c.in_ok-board.board c.in_ok-board.ensures)

pub returns-clause-resets : goal.returns-clause-resets
returns-clause-resets c = rw (c.in_ok-board.ensures.chips, c.in_ok-resets.ensures) demo_resets_name_chips
